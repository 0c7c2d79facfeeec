-- A tile put where the gap lies: the list that this makes is the linear quadtree of the raster with the tile.
--     behind_high     what lies behind the gap starts behind the tile
--     tile_pushed     a tile that is pushed on the tiles that start ahead of it
--     alone_quadtree  a tile put there that has no siblings to merge with
-- and a pixel as such a tile:
--     placed_nobody   nobody's pixel changes nothing
--     placed_pushed   a pixel that is pushed on the tiles that start ahead of it
use mathlib.Core.Path.{◌≡◌, ◌∙◌, refl, ap, sym}
use mathlib.Core.Bool.{false}
use mathlib.Core.Logic.{inl, inr}
use mathlib.Core.List.Memᴰ
use mathlib.Core.List.{List, [], ◌∷◌, ◌++◌, append_assoc, map-append}
use Prim.Native.Nat.{ℕ, zero, suc, ◌+◌, ◌-◌, ◌*◌, ◌^◌, ◌≤◌, ◌<◌}
use native.Mathlib.Nat.{mul-le-mul_right}
use native.Mathlib.Decide.{dec_lt}
use native.Mathlib.Omega.{arith}
use lib.Dec.{ltb}
use lib.ListN.{length, take, drop, get_or, length-append, length-map, length-drop, drop_of_length-le}
use lib.Seq.{slice, take-suc, drop-cons, length-take-le}
use borrow.Author.Tests.{lt-ltb, le-ltb}
use Rattle.tile.specs.declared.Tile.{Tile}
use Rattle.tile.specs.Tile.{tile, stop, tile_of}
use Rattle.tile.specs.Slots.{tiles}
use Rattle.list_words.proofs.Moves.{front_pieces}
use Rattle.quadtree.specs.Raster.{Aligned, ◌∈◌, Uniform, paint}
use Rattle.quadtree.specs.Quadtree.{quadtree}
use Rattle.quadtree.proofs.Alignment.{cmp, below, same, above, area_pos, aligned_unit, aligned_next}
use Rattle.quadtree.proofs.Tiling.{Tiling, tiling_le, tiling_cong, tiling_cut, tiling_split, placed, on_corner}
use Rattle.quadtree.proofs.Shown.{paint_in, paint_out}
use Rattle.quadtree.proofs.Siblings.{NoFour, no_four_left, no_four_right}
use Rattle.quadtree.proofs.ValidLaws.{quadtree_tiling, quadtree_no_four, quadtree_cong}
use Rattle.quadtree.specs.Tiling.{equal_tiles, Between, Apart}
use Rattle.quadtree.proofs.Merge.{equal_tiles_front, equal_tiles_back, between_quadtree}
use Rattle.list_push.specs.Merging.{up_to, MergedInto}
use Rattle.list_push.specs.declared.Top.{Top}
use Rattle.scan_gap.specs.Gap.{held, Fits, Awaits, Receives, dotted, PlacedOn, Placed, Pushed, Low, High, Moved, Outcome}
use Rattle.scan_gap.specs.declared.Gap.{Gap}
use Rattle.scan_gap.proofs.Parts.{held_tiles, held_length}

pub awaits_free : {n : ℕ} {f : ℕ → ℕ} {z : ℕ} {ts : List Tile} → Awaits n f z ts → f z ≡ 0
awaits_free {n} {f} {z} w = let e : z + 4 ^ 0 - 1 ≡ z = omega arith in rw e at (w.last 0 z (aligned_unit z) (omega arith) (omega arith) (omega (arith, w.inside)))

-- tiles on a raster whose pixel z is nobody's: where the last tile ahead of the gap starts ahead of z, all of them end by z
ahead_end : {f : ℕ → ℕ} {hi lo z : ℕ} → f z ≡ 0 → (h : List Tile) (u : Tile) (b : List Tile) → Tiling f hi lo (h ++ u ∷ b) → u.corner < z → (v : Tile) → v ∈ (h ++ u ∷ []) → stop v ≤ z
ahead_end {z = z} free h u b t l v m =
    let s = tiling_split h t in
    elim (Memᴰ.append_cases h m) [
      | inl i ↦ omega (arith, (placed s.0 i).upto)
      | inr i ↦
          let e : v ≡ u = Memᴰ.eq_of_singleton i in
          let o = (placed s.1 (Memᴰ.head {x = u} e)).on in
          elim (dec_lt z (stop v)) [ yes g ↦ absurd (omega (arith, o.uniform z (omega (arith, ap (λ (x : Tile). x.corner) e)) g, o.owned)) | no g ↦ omega arith ]
    ]

-- where a stretch is nobody's and the first tile behind the gap does not start ahead of it, all of them start behind it
behind_start : {f : ℕ → ℕ} {hi lo : ℕ} (c e : ℕ) → Uniform f 0 c e → (a : List Tile) (u : Tile) (b : List Tile) → Tiling f hi lo (a ++ u ∷ b) → c ≤ u.corner → (v : Tile) → v ∈ (u ∷ b) → e ≤ v.corner
behind_start c e free a u b t l v m =
    let p = placed (tiling_split a t).1 m in
    elim (dec_lt v.corner e) [
      | yes g ↦ absurd (omega (arith, on_corner p.on, free v.corner (omega (arith, p.from)) g, p.on.owned))
      | no g ↦ omega arith
    ]

-- a block of four siblings that goes on behind the tile that ends at e
record Over (k e p r : ℕ) : Type 0 where
  stops : p + 4 ^ suc k ≡ e + r * 4 ^ k
  starts : p < e
  on : e < p + 4 ^ suc k

over_end : (k e p j r : ℕ) → j + r ≡ 3 → 0 < r → 4 ^ k ≤ e → e - 4 ^ k ≡ p + j * 4 ^ k → Over k e p r
over_end k e p j r h g room q =
    let x : (j + r) * 4 ^ k ≡ 3 * 4 ^ k = ap (λ (y : ℕ). y * 4 ^ k) h in
    let s : p + 4 ^ suc k ≡ e + r * 4 ^ k = omega arith in
    let m : 1 * 4 ^ k ≤ r * 4 ^ k = mul-le-mul_right (4 ^ k) g in
    record { stops = s; starts = omega (arith, area_pos k); on = omega (arith, area_pos k) }

no_four_first : (s : List ℕ) (i j : ℕ) → j ≤ i → NoFour (tiles (take i s)) → NoFour (tiles (take j s))
no_four_first s i j h nf = no_four_left (tiles (take j s)) (tiles (slice j i s)) (rw (← map-append tile_of (take j s) (slice j i s)) (rw (← front_pieces s j i h) at nf))

-- the list cut at the block of size k at the corner c
module _ {n : ℕ} {f : ℕ → ℕ} {c k : ℕ} (s : List ℕ) (i b : ℕ) (within : i ≤ length s) (low : Low s i c) (high : High s b c) (w : Receives n f c k (tiles (take i s) ++ tiles (drop b s))) where
  abbrev end : ℕ
  end = c + 4 ^ k

  free_corner : f c ≡ 0
  free_corner = w.free c (omega arith) (omega (arith, area_pos k))

  whole : Tiling f (4 ^ n) 0 (tiles (take i s) ++ tiles (drop b s))
  whole = rw w.is (quadtree_tiling n f)

  ahead : (v : Tile) → v ∈ tiles (take i s) → stop v ≤ c
  ahead = go i within low whole
    where
      go : (i : ℕ) → i ≤ length s → Low s i c → Tiling f (4 ^ n) 0 (tiles (take i s) ++ tiles (drop b s)) → (v : Tile) → v ∈ tiles (take i s) → stop v ≤ c
      go zero h l t v m = absurd (Memᴰ.not-nil m)
      go (suc i) h l t v m =
          let u = tile_of (get_or s i 0) in
          let e : tiles (take (suc i) s) ≡ tiles (take i s) ++ u ∷ [] = rw (take-suc s i 0 h) (map-append tile_of (take i s) (get_or s i 0 ∷ [])) in
          let p : suc i - 1 ≡ i = omega arith in
          ahead_end free_corner (tiles (take i s)) u (tiles (drop b s)) (rw (e, append_assoc (tiles (take i s)) (u ∷ []) (tiles (drop b s))) at t) (rw p at (l (omega arith))) v (rw e at m)

  behind : (v : Tile) → v ∈ tiles (drop b s) → end ≤ v.corner
  behind v m = elim (dec_lt b (length s)) [
    | yes h ↦
        let e : tiles (drop b s) ≡ tile_of (get_or s b 0) ∷ tiles (drop (suc b) s) = ap tiles (drop-cons s b 0 h) in
        behind_start c end w.free (tiles (take i s)) (tile_of (get_or s b 0)) (tiles (drop (suc b) s)) (rw e at whole) (high h) v (rw e at m)
    | no h ↦ absurd (Memᴰ.not-nil (rw (drop_of_length-le s {i = b} (omega arith)) at m))
  ]

  -- so the first word behind the gap still starts behind the block
  pub behind_high : High s b end
  behind_high h = behind (tile_of (get_or s b 0)) (let e : tiles (drop b s) ≡ tile_of (get_or s b 0) ∷ tiles (drop (suc b) s) = ap tiles (drop-cons s b 0 h) in rw e (Memᴰ.head refl))

  between_tile : (a : ℕ) → 0 < a → Between (paint f c end a) n (tiles (take i s)) (tiles (drop b s)) (tile c k a)
  between_tile a pos = go (tiling_cut c end (omega arith) (omega (arith, w.inside)) behind (tiles (take i s)) whole (omega arith) ahead)
    where
      go : Tiling f c 0 (tiles (take i s)) × Tiling f (4 ^ n) end (tiles (drop b s)) → Between (paint f c end a) n (tiles (take i s)) (tiles (drop b s)) (tile c k a)
      go t = record {
        ahead = tiling_cong t.0 (λ y l h. paint_out f c end a y (λ d. omega (arith, d.0)));
        rest = tiling_cong t.1 (λ y l h. paint_out f c end a y (λ d. omega (arith, d.1)));
        on = record { aligned = w.aligned; owned = pos; uniform = λ y l h. paint_in f c end a y l h };
      }

  -- the tile of size q that ends with the block, behind the first `at` words, where its siblings do not stand ahead of it
  module _ (a : ℕ) (pos : 0 < a) (at q : ℕ) (le : at ≤ i) (room : 4 ^ q ≤ end) (grown : Between (paint f c end a) n (tiles (take at s)) (tiles (drop b s)) (up_to (tile c k a) q))
      (first : (p : ℕ) (h : List Tile) → Aligned (suc q) p → end ≡ p + 4 * 4 ^ q → tiles (take at s) ≡ h ++ equal_tiles q a 3 p → ⊥) where
    abbrev rest : List Tile
    rest = tiles (drop b s)

    -- siblings behind the tile would reach the last pixel of their block, which is nobody's
    apart : Apart (tiles (take at s)) rest (up_to (tile c k a) q)
    apart j p h r l al e ea eb = elim (dec_lt j 3) [
      | yes g ↦
          let o = over_end q end p j (3 - j) (omega arith) (omega arith) room e in
          let d : end - 4 ^ q + 4 ^ q ≡ end = omega arith in
          let t = equal_tiles_front q a (3 - j) end (p + 4 ^ suc q) r o.stops (rw (d, rw d at eb) at grown.rest) in
          let y = p + 4 ^ suc q - 1 in
          omega (arith, pos, o, t.0 y (omega (arith, o)) (omega (arith, o)), paint_out f c end a y (λ d. omega (arith, o, d.1)), w.last (suc q) p al o.starts (omega (arith, o)) (tiling_le t.1))
      | no g ↦
          let three : j ≡ 3 = omega arith in
          let x = rw three at e in
          first p h al (omega arith) (rw three at ea)
    ]

    put_quadtree : tiles (take at s) ++ up_to (tile c k a) q ∷ rest ≡ quadtree n (paint f c end a)
    put_quadtree =
        let nf : NoFour (tiles (take i s) ++ rest) = rw w.is (quadtree_no_four n f) in
        between_quadtree grown (no_four_first s i at le (no_four_left (tiles (take i s)) rest nf)) (no_four_right (tiles (take i s)) rest nf) apart

    put_length : b ≤ length s → at + 1 + (length s - b) ≡ length (quadtree n (paint f c end a))
    put_length h =
        rw (← put_quadtree, length-append (tiles (take at s)) (up_to (tile c k a) q ∷ rest), length-map (take at s) tile_of, length-take-le at s (omega arith), length-map (drop b s) tile_of, length-drop b s)
        (omega arith)

  module _ (a : ℕ) (pos : 0 < a) (top : Top) (m : MergedInto s i (tile c k a) top) where
    merged_first : (p : ℕ) (h : List Tile) → Aligned (suc top.size) p → end ≡ p + 4 * 4 ^ top.size → tiles (take top.at s) ≡ h ++ equal_tiles top.size a 3 p → ⊥
    merged_first p h al e ea = let stops : end ≡ p + 4 ^ suc top.size = omega arith in m.ended (rw (← stops) at (aligned_next al)) (h, p, e, ea)

    pub merged_quadtree : tiles (take top.at s) ++ up_to (tile c k a) top.size ∷ tiles (drop b s) ≡ quadtree n (paint f c end a)
    merged_quadtree = put_quadtree a pos top.at top.size m.at m.room (m.between n (paint f c end a) (tiles (drop b s)) (between_tile a pos)) merged_first

    pub merged_length : b ≤ length s → top.at + 1 + (length s - b) ≡ length (quadtree n (paint f c end a))
    merged_length = put_length a pos top.at top.size m.at m.room (m.between n (paint f c end a) (tiles (drop b s)) (between_tile a pos)) merged_first

  -- a tile that needs no merging, since the raster is of another account somewhere on its siblings ahead of it
  module _ (a : ℕ) (pos : 0 < a) (other : (p : ℕ) → Aligned (suc k) p → end ≡ p + 4 * 4 ^ k → Uniform f a p c → ⊥) where
    self : up_to (tile c k a) k ≡ tile c k a
    self = let e : end - 4 ^ k ≡ c = omega arith in rw e

    alone_first : (p : ℕ) (h : List Tile) → Aligned (suc k) p → end ≡ p + 4 * 4 ^ k → tiles (take i s) ≡ h ++ equal_tiles k a 3 p → ⊥
    alone_first p h al e ea =
        let t = (tiling_cut c end (omega arith) (omega (arith, w.inside)) behind (tiles (take i s)) whole (omega arith) ahead).0 in
        other p al e (equal_tiles_back k a 3 p c h (omega arith) (rw ea at t)).1

    pub alone_quadtree : tiles (take i s) ++ tile c k a ∷ tiles (drop b s) ≡ quadtree n (paint f c end a)
    alone_quadtree = rw self at (put_quadtree a pos i k (omega arith) (omega arith) (rw self (between_tile a pos)) alone_first)

    pub alone_length : b ≤ length s → i + 1 + (length s - b) ≡ length (quadtree n (paint f c end a))
    alone_length = put_length a pos i k (omega arith) (omega arith) (rw self (between_tile a pos)) alone_first

-- the contract of `put`
pub placed_nobody : (s : List ℕ) (i b z a : ℕ) → Fits s i b → a ≡ 0 → Placed s s i b z a (record { full = false; front = i; back = b })
placed_nobody s i b z a fit e = record {
  fits = fit;
  on = λ n f w.
      let ts = tiles (held s i b) in
      let q : ts ≡ quadtree n (dotted f z a) = w.is ∙ quadtree_cong n f (dotted f z a) (λ y h. sym (nobody f (awaits_free w) y)) in
      record { full = sym (le-ltb (length s) _ (omega (arith, ap length q, held_length s i b fit.0 fit.1))); done = λ r. q; kept = λ r. refl };
}
  where
    nobody : (f : ℕ → ℕ) → f z ≡ 0 → (y : ℕ) → dotted f z a y ≡ f y
    nobody f g y = elim (cmp y z) [
      | below l ↦ paint_out f z (z + 1) a y (λ c. omega (arith, c.0))
      | same q ↦ paint_in f z (z + 1) a y (omega arith) (omega arith) ∙ e ∙ sym (ap f q ∙ g)
      | above l ↦ paint_out f z (z + 1) a y (λ c. omega (arith, c.1))
    ]

ltb_shift : (m b x y : ℕ) → b ≤ m → y ≡ x + (m - b) → ltb b x ≡ ltb m y
ltb_shift m b x y h e = elim (dec_lt b x) [ yes l ↦ lt-ltb b x l ∙ sym (lt-ltb m y (omega arith)) | no l ↦ le-ltb b x (omega arith) ∙ sym (le-ltb m y (omega arith)) ]

-- a tile pushed where the gap lies
module _ (t u : List ℕ) (i b c k a : ℕ) (p : Outcome) (pos : 0 < a) (fit : Fits t i b) (low : Low t i c) (high : High t b c) (pushed : Pushed t u i b (tile c k a) p) where
  after : tiles (held u p.front p.back) ≡ tiles (take p.front u) ++ tiles (drop b t)
  after = rw pushed.there (held_tiles u p.front b ∙ rw pushed.back)

  pub tile_pushed : (n : ℕ) (f : ℕ → ℕ) → Receives n f c k (tiles (held t i b)) → PlacedOn n (length t) (paint f c (c + 4 ^ k) a) (tiles (held t i b)) (tiles (held u p.front p.back)) p.full
  tile_pushed n f w =
      let within : i ≤ length t = omega (arith, fit) in
      let v = rw (held_tiles t i b) at w in
      let q = merged_quadtree t i b within low high v a pos pushed.top pushed.merged in
      let l = merged_length t i b within low high v a pos pushed.top pushed.merged fit.1 in
      record {
        full = pushed.full ∙ ltb_shift (length t) b (pushed.top.at + 1) (length (quadtree n (paint f c (c + 4 ^ k) a))) (omega (arith, fit)) (omega arith);
        done = λ r. after ∙ rw (pushed.done r, append_assoc (tiles (take pushed.top.at t)) (up_to (tile c k a) pushed.top.size ∷ []) (tiles (drop b t))) q;
        kept = λ r. after ∙ rw (pushed.kept r) (sym (held_tiles t i b));
      }

-- a pixel is a tile
awaits_receives : {n : ℕ} {f : ℕ → ℕ} {z : ℕ} {ts : List Tile} → Awaits n f z ts → Receives n f z 0 ts
awaits_receives {n} {f} {z} w = record {
  is = w.is;
  inside = omega (arith, w.inside);
  aligned = aligned_unit z;
  free = λ y l h. (let q : y ≡ z = omega arith in ap f q ∙ awaits_free w);
  last = λ j d al l u i. w.last j d al (omega arith) (omega arith) i;
}

pub placed_pushed : (s t u : List ℕ) (i b z a : ℕ) (g : Gap) (p : Outcome) → 0 < a → length t ≡ length s → length u ≡ length t → Moved s t i b z g → Pushed t u g.front g.back (tile z 0 a) p → Placed s u i b z a p
placed_pushed s t u i b z a g p pos st tu moved pushed = record {
  fits = rw pushed.there (pushed.fits, omega (arith, moved.fits));
  on = λ n f w.
      let v = awaits_receives (rw (← moved.held) at w) in
      rw (moved.held, st) at (tile_pushed t u g.front g.back z 0 a p pos moved.fits moved.low moved.high pushed n f v);
}
