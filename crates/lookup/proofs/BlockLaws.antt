-- Laws of the block named, with no slot in sight.
--     names_same         there is one such block
--     names_moves        it is that of each of its pixels
--     names_cong         it goes by the raster's accounts on the bed
--     free_size_fits, free_size_free, free_size_top   the largest free block's size, by what it says
--     free_names         for a nobody's pixel it is the free block
--     tile_names         for somebody's pixel it is the tile
--     by_tile_at          a fact of the tile found, by whether one is
--     block_at_names      a valid list's block is the one named
--     block_at_tile       for somebody's pixel it is a tile of the list
--     block_at_account    its account is that of the list
use mathlib.Core.Path.{◌≡◌, refl, sym, ◌∙◌}
use mathlib.Core.List.Memᴰ
use mathlib.Core.List.{List, [], ◌∷◌}
use Prim.Native.Nat.{ℕ, zero, suc, ◌+◌, ◌^◌, ◌≤◌, ◌<◌}
use native.Mathlib.Decide.{dec_lt}
use native.Mathlib.Omega.{arith}
use Rattle.basics.proofs.Tests.{Test, by_test, test_and}
use Rattle.tile.specs.declared.Tile.{Tile}
use Rattle.tile.specs.Tile.{corner_at}
use Rattle.quadtree.specs.Raster.{Covers, Uniform, account_at, ◌∈◌}
use Rattle.quadtree.specs.Valid.{Valid}
use Rattle.quadtree.proofs.Alignment.{Cmp, cmp, below, same, above, area_pos, aligned_room, aligned_nest, corner_aligned, corner_has, corner_only}
use Rattle.quadtree.proofs.Shown.{test_covers, account_at_rest}
use Rattle.quadtree.proofs.Blocks.{test_uniform}
use Rattle.quadtree.proofs.Chains.{quadrant_stop}
use Rattle.quadtree.proofs.Linear.{valid_linear}
use Rattle.bed.specs.declared.Kind.{Kind}
use Rattle.bed.specs.Places.{place_of}
use Rattle.bed.specs.Bed.{Bed, bed_of}
use Rattle.bed.proofs.ScannedBlocks.{test_scanned}
use Rattle.lookup.specs.Block.{tile_at, free_in, free_size, free_block, block_at, WhollyScanned, Names, Blank}

module _ {b : Bed} {z : ℕ} where
  names_below : {t d : Tile} → Names b z t → Names b z d → t.account ≡ d.account → t.size < d.size → ⊥
  names_below {t} {d} p q e h = p.top d.size d.corner (omega arith) q.fits q.aligned q.has.0 q.has.1 q.scanned (λ y l g. q.uniform y l g ∙ sym e)

  pub names_same : {t d : Tile} → Names b z t → Names b z d → t ≡ d
  names_same {t} {d} p q = go (cmp t.size d.size)
    where
      account : t.account ≡ d.account
      account = sym (p.uniform z p.has.0 p.has.1) ∙ q.uniform z q.has.0 q.has.1

      corner : t.size ≡ d.size → t.corner ≡ d.corner
      corner e = corner_only p.aligned p.has.0 p.has.1 ∙ sym (rw e (corner_only q.aligned q.has.0 q.has.1))

      go : Cmp t.size d.size → t ≡ d
      go (below h) = absurd (names_below p q account h)
      go (same e) = λ i. record { corner = corner e i; size = e i; account = account i }
      go (above h) = absurd (names_below q p (sym account) h)

  -- a larger block that has another pixel of it has this one too
  pub names_moves : {t : Tile} → Names b z t → (y : ℕ) → Covers t y → Names b y t
  names_moves {t} p y h = record {
    fits = p.fits;
    inside = p.inside;
    aligned = p.aligned;
    has = h;
    scanned = p.scanned;
    uniform = p.uniform;
    top = λ k c g l m q u.
        let o = aligned_nest {j = t.size} {k = k} {x = t.corner} {c = c} (omega arith) p.aligned m (omega (arith, h.1)) (omega (arith, h.0)) in
        p.top k c g l m (omega (arith, o.0, p.has.0)) (omega (arith, o.1, p.has.1));
  }

-- it goes by the raster's accounts on the bed
pub names_cong : {k : Kind} {n s : ℕ} {f g : ℕ → ℕ} {z : ℕ} {t : Tile} → ((y : ℕ) → y < 4 ^ n → f y ≡ g y) → z < 4 ^ n → Names (bed_of k n s f) z t → Names (bed_of k n s g) z t
names_cong {n = n} e h p = record {
  fits = p.fits;
  inside = p.inside;
  aligned = p.aligned;
  has = p.has;
  scanned = p.scanned;
  uniform = λ y l u. sym (e y (omega (arith, aligned_room p.fits p.aligned p.inside))) ∙ p.uniform y l u;
  top = λ k c x l m q u w v. p.top k c x l m q u w (λ y i j. e y (omega (arith, aligned_room {k = n} l m (omega arith))) ∙ v y i j);
}

module _ (b : Bed) (z : ℕ) where
  -- the block of size k that has z is wholly nobody's and wholly scanned
  abbrev Free : ℕ → Type 0
  Free k = Uniform b.account 0 (corner_at k z) (corner_at k z + 4 ^ k) × WhollyScanned b (corner_at k z) (corner_at k z + 4 ^ k)

  test_free : (k : ℕ) → Test (Free k) (free_in b (corner_at k z) k)
  test_free k = test_and (test_uniform b.account 0 (corner_at k z) (4 ^ k)) (test_scanned b.kind b.order b.scanned (corner_at k z) k)

  free_size_fits : (n : ℕ) → free_size b n z ≤ n
  unfolding free_size
  free_size_fits zero = omega arith
  free_size_fits (suc k) = by_test (λ (j : ℕ). j ≤ suc k) (test_free (suc k)) (λ u. omega arith) (λ u. omega (arith, free_size_fits k))

  free_size_free : b.account z ≡ 0 → place_of b.kind b.order z < b.scanned → (n : ℕ) → Free (free_size b n z)
  unfolding free_size
  free_size_free e s zero = (λ y l h. let g : y ≡ z = omega arith in rw g e, λ y l h. let g : y ≡ z = omega arith in rw g s)
  free_size_free e s (suc k) = by_test Free (test_free (suc k)) (λ u. u) (λ u. free_size_free e s k)

  free_size_top : (n j : ℕ) → free_size b n z < j → j ≤ n → Free j → ⊥
  unfolding free_size
  free_size_top zero j = λ h l u. omega arith
  free_size_top (suc k) j = by_test (λ (m : ℕ). m < j → j ≤ suc k → Free j → ⊥) (test_free (suc k))
      (λ u h l v. omega arith)
      (λ u h l v. elim (cmp j (suc k)) [
        | below p ↦ free_size_top k j h (omega arith) v
        | same e ↦ u (rw e at v)
        | above p ↦ omega arith
      ])

  pub free_names : z < 4 ^ b.order → b.account z ≡ 0 → place_of b.kind b.order z < b.scanned → Names b z (free_block b z)
  unfolding free_block
  free_names o e s =
      let k = free_size b b.order z in
      record {
        fits = free_size_fits b.order;
        inside = omega (arith, (corner_has k z).0);
        aligned = corner_aligned k z;
        has = corner_has k z;
        scanned = (free_size_free e s b.order).1;
        uniform = (free_size_free e s b.order).0;
        top = λ j c h l m p q w u. free_size_top b.order j h l (rw (corner_only m p q) at u, rw (corner_only m p q) at w);
      }

pub by_tile_at : (Q : Tile → Type 0) (d : Tile) (ts : List Tile) (z : ℕ) → ((t : Tile) → t ∈ ts → Covers t z → Q t) → (account_at ts z ≡ 0 → Q d) → Q (tile_at d ts z)
unfolding tile_at account_at
by_tile_at Q d [] z found none = none refl
by_tile_at Q d (t ∷ ts) z found none = by_test Q (test_covers t z)
    (λ c. found t (Memᴰ.head refl) c)
    (λ c. by_tile_at Q d ts z (λ u i. found u (Memᴰ.tail i)) (λ e. none (account_at_rest t ts z c ∙ e)))

pub block_at_tile : (b : Bed) (ts : List Tile) (z : ℕ) → 0 < (block_at b ts z).account → block_at b ts z ∈ ts
unfolding block_at free_block
block_at_tile b ts z = by_tile_at (λ (d : Tile). 0 < d.account → d ∈ ts) (free_block b z) ts z (λ t i c h. i) (λ e h. absurd (omega arith))

module _ (k : Kind) (n s : ℕ) (ts : List Tile) (valid : Valid n ts) (blank : Blank k n s (account_at ts)) where
  abbrev bed : Bed
  bed = bed_of k n s (account_at ts)

  -- a tile is the block named at its corner, and so at each pixel that it covers
  pub tile_names : (z : ℕ) (t : Tile) → t ∈ ts → Covers t z → Names bed z t
  tile_names z t i c =
      let p = ((valid_linear valid).members t).0 i in
      names_moves (record {
        fits = p.quadrant.fits;
        inside = p.quadrant.inside;
        aligned = p.quadrant.aligned;
        has = (omega arith, omega (arith, area_pos t.size));
        scanned = λ y l h. elim (dec_lt (place_of k n y) s) [
          | yes g ↦ g
          | no g ↦ absurd (omega (arith, p.uniform y l h, p.quadrant.owned, blank y (omega (arith, quadrant_stop p.quadrant)) (omega arith)))
        ];
        uniform = p.uniform;
        top = λ j d h l m q u w v. p.top j d h l m q u v;
      }) z c

  module _ (z : ℕ) (o : z < 4 ^ n) (scanned : place_of k n z < s) where
    pub block_at_names : Names bed z (block_at bed ts z)
    unfolding block_at
    block_at_names = by_tile_at (Names bed z) (free_block bed z) ts z (tile_names z) (λ e. free_names bed z o e scanned)

    pub block_at_account : (block_at bed ts z).account ≡ account_at ts z
    block_at_account = let p = block_at_names in sym (p.uniform z p.has.0 p.has.1)
