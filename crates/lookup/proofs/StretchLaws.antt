-- The block named by the two tiles next to a place in the list.
--     from_first, from_behind, upto_ahead, upto_end   where a stretch starts and ends
--     shown_by us z i           what the last of the i tiles at the front of us shows at z
--     account_at_shown_by        where i tiles start by z, that is the account of the list
--     Stretch f end lo hi z    z lies in the stretch from lo up to hi, a run of nobody's from its first number on
--     log_without              the size of the largest block that has z and not y, by the highest bit that differs
--     largest_first, largest_least   the largest block in a stretch, short of what lies on either side
--     tile_in_at, -in, cut_ahead   the tile of a word of the list, and how many start ahead of a place
--     ok_said, bad_said        an answer has no number just where it is no refusal
--     pixel_scanned            a scanned pixel is a scanned block of size 0
--     stretch_names            the largest scanned block in it that has z is the one named
--     place_tile               where the tile ahead of the place of z stops past z, it is the block named
--     place_stretch            else the two tiles next to the place bound the stretch of z
--     place_found, place_free  so that code answers the block named, tile or free
use mathlib.Core.Path.{◌≡◌, refl, sym, ◌∙◌}
use mathlib.Core.List.{List, ◌∷◌}
use mathlib.Core.Logic.{◌⊎◌, inl, inr}
use Prim.Native.Nat.{ℕ, zero, suc, ◌+◌, ◌-◌, ◌*◌, ◌/◌, ◌^◌, ◌≤◌, ◌<◌}
use native.Mathlib.Decide.{dec_lt}
use native.Mathlib.Omega.{arith}
use lib.Bits.{bit_xor, xor_lt}
use lib.Count.{count_leading_zeros, leading_top}
use lib.Pow.{pow_mono}
use lib.Dec.{ltb}
use Rattle.std.proofs.Common.{rules}
use Rattle.std.specs.Prelude.{min, Result, Ok, Err, true, false, is_ok}
use Rattle.refusal.specs.declared.Refusal.{Refusal}
use Rattle.refusal.specs.Refusal.{accepted}
use Rattle.refusal.specs.Refused.{said}
use Rattle.refusal.proofs.RefusedLaws.{number_some}
use lib.ListN.{length, get_or}
use Rattle.basics.specs.Choice.{if}
use Rattle.basics.proofs.Tests.{test_leb}
use Rattle.basics.proofs.ChoiceLaws.{if_yes, if_no}
use Rattle.tile.specs.declared.Tile.{Tile}
use Rattle.tile.specs.Tile.{tile, stop, corner_at, tile_of}
use Rattle.tile.specs.Slots.{tiles}
use Rattle.tile.proofs.SlotTiles.{tiles_in_at, tiles_in_in}
use Rattle.quadtree.specs.Raster.{Aligned, Covers, Uniform, account_at, ◌∈◌}
use Rattle.quadtree.specs.Quadtree.{Largest}
use Rattle.quadtree.specs.Valid.{Chain, end, link, Valid}
use Rattle.quadtree.specs.Tiling.{Without}
use Rattle.quadtree.specs.Runs.{RunAt}
use Rattle.quadtree.proofs.Alignment.{area_pos, size_le, aligned_room, aligned_nest, corner_aligned, corner_has}
use Rattle.quadtree.proofs.HighestBit.{xor_some, without_half}
use Rattle.quadtree.proofs.Shown.{account_at_first, account_at_rest}
use Rattle.quadtree.proofs.Chains.{chain_rising, chain_before}
use Rattle.quadtree.proofs.Linear.{valid_linear}
use Rattle.bed.specs.declared.Scan.{Scan}
use Rattle.bed.specs.Places.{place_of}
use Rattle.bed.specs.Bed.{Bed, bed_of}
use Rattle.list_check.proofs.TreeLaws.{tiles_whole}
use Rattle.list_search.specs.Cut.{Cut}
use Rattle.list_search.specs.Count.{is_ahead, counted}
use Rattle.list_search.proofs.CountLaws.{test_ahead, counted_yes, ahead_none, ahead_cut}
use Rattle.lookup.specs.Block.{block_at, WhollyScanned, Names, Blank}
use Rattle.lookup.specs.Stretch.{stretch_from, stretch_upto, LargestIn, Scanned, ScannedTo}
use Rattle.lookup.proofs.BlockLaws.{names_same, tile_names, block_at_names}

pub from_first : (slots : List ℕ) (i : ℕ) → i ≡ 0 → 0 ≡ stretch_from slots i
unfolding stretch_from
from_first slots i e = rw e refl

pub from_behind : (slots : List ℕ) (i : ℕ) → 0 < i → stop (tile_of (get_or slots (i - 1) 0)) ≡ stretch_from slots i
unfolding stretch_from
from_behind slots zero h = absurd (omega arith)
from_behind slots (suc i) h = let e : suc i - 1 ≡ i = omega arith in rw e refl

module _ (n t : ℕ) (slots : List ℕ) (i : ℕ) where
  pub upto_ahead : i < t → (tile_of (get_or slots i 0)).corner ≡ stretch_upto n t slots i
  unfolding stretch_upto
  upto_ahead h = sym (if_yes _ (4 ^ n) (test_leb (suc i) t) h)

  pub upto_end : (i < t → ⊥) → 4 ^ n ≡ stretch_upto n t slots i
  unfolding stretch_upto
  upto_end h = sym (if_no _ (4 ^ n) (test_leb (suc i) t) h)

unfoldable shown_by : List Tile → ℕ → ℕ → ℕ
shown_by us z zero = 0
shown_by us z (suc j) = if (ltb z (stop (get_or us j (tile_of 0)))) (get_or us j (tile_of 0)).account 0

module _ {n : ℕ} (z : ℕ) where
  account_at_shown_by : {lo : ℕ} {us : List Tile} → Chain n lo us → account_at us z ≡ shown_by us z (counted (is_ahead (z + 1)) us)
  unfolding account_at counted shown_by
  account_at_shown_by end = refl
  account_at_shown_by {lo} (link {t = t} {ts = ts} p r) = go (dec_lt t.corner (z + 1)) (account_at_shown_by r)
    where
      first : (k : ℕ) → k ≡ counted (is_ahead (z + 1)) ts → t.corner ≤ z → account_at ts z ≡ shown_by ts z k → account_at (t ∷ ts) z ≡ shown_by (t ∷ ts) z (suc k)
      first zero e b ih = elim (dec_lt z (stop t)) [
        | yes c ↦ account_at_first t ts z (b, c) ∙ sym (if_yes t.account 0 (test_leb (suc z) (stop t)) c)
        | no c ↦ account_at_rest t ts z (λ d. c d.1) ∙ ih ∙ sym (if_no t.account 0 (test_leb (suc z) (stop t)) c)
      ]
      first (suc j) e b ih = account_at_rest t ts z (λ d. omega (arith, d.1, ahead_none (z + 1) (chain_rising r) (omega arith))) ∙ ih

      go : Dec (t.corner < z + 1) → account_at ts z ≡ shown_by ts z (counted (is_ahead (z + 1)) ts) → account_at (t ∷ ts) z ≡ shown_by (t ∷ ts) z (counted (is_ahead (z + 1)) (t ∷ ts))
      go (yes b) ih = rw (counted_yes (test_ahead (z + 1)) t ts b) (first (counted (is_ahead (z + 1)) ts) refl (omega arith) ih)
      go (no b) ih =
          let q : Chain n t.corner (t ∷ ts) = link {lo = t.corner} {t = t} (record { quadrant = p.quadrant; after = omega arith }) r in
          rw (ahead_none (z + 1) (chain_rising q) (omega arith)) (chain_before q z (omega arith))

pub record Stretch (f : ℕ → ℕ) (end lo hi z : ℕ) : Type 0 where
  pub from : lo ≤ z
  pub upto : z < hi
  pub run : RunAt f end lo 0 hi
  pub first : 0 < lo → f (lo - 1) ≡ 0 → ⊥

-- the sizes that end short of y and start behind it
without_before : {z y k : ℕ} → Without z y k → z < y → corner_at k z + 4 ^ k ≤ y
without_before {z} {y} {k} p h = elim (dec_lt y (corner_at k z + 4 ^ k)) [ yes l ↦ absurd (p.short (omega (arith, (corner_has k z).0), l)) | no l ↦ omega arith ]

without_behind : {z y k : ℕ} → Without z y k → y < z → y < corner_at k z
without_behind {z} {y} {k} p h = elim (dec_lt y (corner_at k z)) [ yes l ↦ l | no l ↦ absurd (p.short (omega arith, omega (arith, (corner_has k z).1))) ]

-- of two blocks that have z, the smaller lies in the larger
corner_nest : (z : ℕ) {j k : ℕ} → j ≤ k → (corner_at k z ≤ corner_at j z) × (corner_at j z + 4 ^ j ≤ corner_at k z + 4 ^ k)
corner_nest z {j} {k} h =
    aligned_nest {j = j} {k = k} {x = corner_at j z} {c = corner_at k z} h (corner_aligned j z) (corner_aligned k z)
    (omega (arith, (corner_has k z).0, (corner_has j z).1)) (omega (arith, (corner_has j z).0, (corner_has k z).1))

-- the place of the highest bit, by the powers of 2 next to a number
pub log_without : (z y l : ℕ) → (z ≡ y → ⊥) → z < 2 ^ 32 → y < 2 ^ 32 → 2 ^ l ≤ bit_xor z y → bit_xor z y < 2 * 2 ^ l → Without z y (l / 2)
log_without z y l differ h g low high = rw (same (leading_top 32 x (xor_some z y differ) (xor_lt 32 z y h g))) (without_half z y differ h g)
  where
    x : ℕ
    x = bit_xor z y

    same : (j : ℕ) × (count_leading_zeros 32 x + suc j ≡ 32) × (2 ^ j ≤ x) × (x < 2 ^ suc j) → l ≡ 31 - count_leading_zeros 32 x
    same (j, e, p, q) = elim (dec_lt l j) [
      | yes d ↦ let m : 2 ^ suc l ≤ 2 ^ j = pow_mono d in absurd (omega arith)
      | no d ↦ elim (dec_lt j l) [
        | yes a ↦ let m : 2 ^ suc j ≤ 2 ^ l = pow_mono a in absurd (omega arith)
        | no a ↦ omega arith
      ]
    ]

module _ {lo hi z b : ℕ} (behind : Without z hi b) (upto : z < hi) where
  pub largest_first : lo ≡ 0 → LargestIn lo hi z b
  largest_first e = record { lies = (omega arith, without_before behind upto); top = λ l. omega (arith, l.1, behind.over.1) }

  module _ {a : ℕ} (first : 0 < lo) (ahead : Without z (lo - 1) a) (from : lo ≤ z) where
    pub largest_ahead : a < b → LargestIn lo hi z a
    largest_ahead h = record {
      lies = (omega (arith, without_behind ahead (omega arith)), omega (arith, (corner_nest z {j = a} {k = b} (omega arith)).1, without_before behind upto));
      top = λ l. omega (arith, l.0, ahead.over.0);
    }

    pub largest_behind : b ≤ a → LargestIn lo hi z b
    largest_behind h = record {
      lies = (omega (arith, (corner_nest z {j = b} {k = a} h).0, without_behind ahead (omega arith)), without_before behind upto);
      top = λ l. omega (arith, l.1, behind.over.1);
    }

    pub largest_least : {m : ℕ} → m ≡ min b a → LargestIn lo hi z m
    largest_least {m} e = elim (dec_lt a b) [
      | yes h ↦ let d : m ≡ a = omega arith in rw d (largest_ahead h)
      | no h ↦ let d : m ≡ b = omega arith in rw d (largest_behind (omega arith))
    ]

-- the block of size 0 is the pixel
pub pixel_scanned : (c : Scan) (z : ℕ) → place_of c.kind c.order z < c.pixels → Scanned c 0 z
pixel_scanned c z h y l g = let e : y ≡ z = omega arith in rw e h

-- an answer has no number just where it is no refusal
pub ok_said : {A : Type 0} (r : Result A Refusal) → is_ok r ≡ true → said r ≡ accepted
ok_said (Ok x) e = refl
ok_said (Err r) e = search rules

pub bad_said : {A : Type 0} (r : Result A Refusal) → is_ok r ≡ false → said r ≡ accepted → ⊥
bad_said (Ok x) e g = search rules
bad_said (Err r) e g = let h = number_some r in omega (arith, h, g)

-- the largest scanned block in a stretch: a uniform block reaches past neither end of the stretch
pub stretch_names : (c : Scan) {f : ℕ → ℕ} {lo hi z size k : ℕ} → Stretch f (4 ^ c.order) lo hi z → LargestIn lo hi z size → ScannedTo c size z k →
    Names (bed_of c.kind c.order c.pixels f) z (tile (corner_at k z) k 0)
stretch_names c {f} {lo} {hi} {z} {size} {k} s w v = record {
  fits = omega (arith, v.low, size_le size n (omega (arith, w.lies.1, s.run.room)));
  inside = omega (arith, (corner_has k z).0, s.upto, s.run.room);
  aligned = corner_aligned k z;
  has = corner_has k z;
  scanned = v.scanned;
  uniform = λ y l h. let o = corner_nest z {j = k} {k = size} v.low in s.run.uniform y (omega (arith, w.lies.0, o.0)) (omega (arith, w.lies.1, o.1));
  top = larger;
}
  where
    n : ℕ
    n = c.order

    larger : (j d : ℕ) → k < j → j ≤ c.order → Aligned j d → d ≤ z → z < d + 4 ^ j → WhollyScanned (bed_of c.kind c.order c.pixels f) d (d + 4 ^ j) → Uniform f 0 d (d + 4 ^ j) → ⊥
    larger j d h g m l u a b = elim (dec_lt size j) [
      | yes q ↦ let o = nest (suc size) q in w.top (omega (arith, low, o.0), omega (arith, high, o.1))
      | no q ↦ let o = nest (suc k) h in v.top (omega arith) (λ y p r. a y (omega (arith, o.0)) (omega (arith, o.1)))
    ]
      where
        low : lo ≤ d
        low = elim (dec_lt d lo) [ yes e ↦ absurd (s.first (omega arith) (b (lo - 1) (omega arith) (omega (arith, s.from)))) | no e ↦ omega arith ]

        high : d + 4 ^ j ≤ hi
        high = elim (dec_lt hi (d + 4 ^ j)) [
          | yes e ↦ absurd (s.run.ended (omega (arith, aligned_room g m (omega (arith, s.upto, s.run.room)))) (b hi (omega (arith, s.upto)) e))
          | no e ↦ omega arith
        ]

        nest : (i : ℕ) → i ≤ j → (d ≤ corner_at i z) × (corner_at i z + 4 ^ i ≤ d + 4 ^ j)
        nest i e =
            let q = corner_has i z in
            aligned_nest {j = i} {k = j} {x = corner_at i z} {c = d} e (corner_aligned i z) m (omega (arith, q.1)) (omega (arith, q.0))

module _ (c : Scan) (ws : List ℕ) (valid : Valid c.order (tiles ws)) (blank : Blank c.kind c.order c.pixels (account_at (tiles ws))) where
  abbrev n : ℕ
  n = c.order

  abbrev t : ℕ
  t = length ws

  abbrev map : ℕ → ℕ
  map = account_at (tiles ws)

  abbrev bed : Bed
  bed = bed_of c.kind n c.pixels map

  abbrev tile_in : ℕ → Tile
  tile_in i = tile_of (get_or ws i 0)

  tile_in_at : (i : ℕ) → i < t → get_or (tiles ws) i (tile_of 0) ≡ tile_in i
  tile_in_at i h = rw (← tiles_whole ws) (tiles_in_at t ws i h)

  tile_in_in : (i : ℕ) → i < t → tile_in i ∈ tiles ws
  tile_in_in i h = rw (← tiles_whole ws) (tiles_in_in t ws i h (omega arith))

  cut_ahead : (y i : ℕ) → Cut ws 0 t y i → i ≡ counted (is_ahead y) (tiles ws)
  cut_ahead y i w = rw (← tiles_whole ws) (ahead_cut t ws (omega arith) (rw (tiles_whole ws) (chain_rising valid.chain)) y i w)

  largest : (i : ℕ) → i < t → Largest n map (tile_in i)
  largest i h = ((valid_linear valid).members (tile_in i)).0 (tile_in_in i h)

  -- the pixels between the two tiles next to a place
  between : (i y : ℕ) → Cut ws 0 t (y + 1) i → stretch_from ws i ≤ y → map y ≡ 0
  unfolding shown_by stretch_from
  between i y w h = account_at_shown_by y valid.chain ∙ rw (← cut_ahead (y + 1) i w) (go i w h)
    where
      go : (j : ℕ) → Cut ws 0 t (y + 1) j → stretch_from ws j ≤ y → shown_by (tiles ws) y j ≡ 0
      go zero w h = refl
      go (suc j) w h = rw (tile_in_at j (omega (arith, w.to))) (if_no _ 0 (test_leb (suc y) (stop (tile_in j))) (λ l. omega arith))

  module _ (z i : ℕ) (w : Cut ws 0 t (z + 1) i) where
    abbrev lo : ℕ
    lo = stretch_from ws i

    abbrev hi : ℕ
    hi = stretch_upto n t ws i

    some_ahead : 0 < lo → 0 < i
    some_ahead h = elim (dec_lt 0 i) [ yes p ↦ p | no p ↦ absurd (omega (arith, from_first ws i (omega arith))) ]

    pub place_tile : z < lo → (0 < i) × Names bed z (tile_in (i - 1))
    place_tile h =
        let p = some_ahead (omega arith) in
        let h : Covers (tile_in (i - 1)) z = (omega (arith, w.ahead p), omega (arith, from_behind ws i p)) in
        (p, tile_names c.kind n c.pixels (tiles ws) valid blank z (tile_in (i - 1)) (tile_in_in (i - 1) (omega (arith, w.to))) h)

    -- the stretch ends with a tile, or with the bed
    ends : ((i < t) × ((tile_in i).corner ≡ hi)) ⊎ ((i < t → ⊥) × (4 ^ n ≡ hi))
    ends = elim (dec_lt i t) [ yes h ↦ inl (h, upto_ahead n t ws i h) | no h ↦ inr (h, upto_end n t ws i h) ]

    behind : (y : ℕ) → y < hi → i < t → y + 1 ≤ (tile_in i).corner
    behind y h g = omega (arith, upto_ahead n t ws i g)

    ahead : (y : ℕ) → lo ≤ y → 0 < i → (tile_in (i - 1)).corner < y + 1
    ahead y h g = omega (arith, from_behind ws i g, area_pos (tile_in (i - 1)).size)

    pub place_stretch : z < 4 ^ n → lo ≤ z → Stretch map (4 ^ n) lo hi z
    place_stretch l h = record {
      from = h;
      upto = below;
      run = record {
        some = omega (arith, below);
        room = elim ends [ inl e ↦ omega (arith, e.1, (largest i e.0).quadrant.inside) | inr e ↦ omega (arith, e.1) ];
        uniform = λ y p q. between i y (record { from = omega arith; to = w.to; ahead = ahead y p; behind = behind y q }) p;
        ended = λ p g. elim ends [
          | inl e ↦
              let b = largest i e.0 in
              omega (arith, b.quadrant.owned, b.uniform hi (omega (arith, e.1)) (omega (arith, e.1, area_pos (tile_in i).size)))
          | inr e ↦ omega (arith, e.1)
        ];
      };
      first = λ p g.
          let a = some_ahead p in
          let b = largest (i - 1) (omega (arith, w.to)) in
          omega (arith, b.quadrant.owned, b.uniform (lo - 1) (omega (arith, from_behind ws i a, area_pos (tile_in (i - 1)).size)) (omega (arith, from_behind ws i a)));
    }
      where
        below : z < hi
        below = elim ends [ inl e ↦ omega (arith, e.1, w.behind e.0) | inr e ↦ omega (arith, e.1) ]

    -- what code answers, by whether the tile ahead stops past z
    module _ (l : z < 4 ^ n) (scanned : place_of c.kind n z < c.pixels) where
      named : Names bed z (block_at bed (tiles ws) z)
      named = block_at_names c.kind n c.pixels (tiles ws) valid blank z l scanned

      pub place_found : z < lo → tile_in (i - 1) ≡ block_at bed (tiles ws) z
      place_found h = names_same (place_tile h).1 named

      pub place_free : lo ≤ z → (size k : ℕ) → LargestIn lo hi z size → ScannedTo c size z k → tile (corner_at k z) k 0 ≡ block_at bed (tiles ws) z
      place_free h size k e v = names_same (stretch_names c (place_stretch l h) e v) named
