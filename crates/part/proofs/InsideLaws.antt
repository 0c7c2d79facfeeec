-- The tiles of a valid list inside a block, by how many start ahead of its corner and of its stop.
--     test_inside      what the test of a tile inside tests
--     inside_le        those ahead of the block and those inside it are ahead of its stop
--     inside_all       and no others, where each tile that starts in the block lies in it
--     first_at         a tile stands behind all that start ahead of it
--     Block            what is known where quadrant part's checks are passed: part_check_passed, and whole_passed of
--                      a checked list
--     to_le            a list has no more tiles ahead of a number than tiles
--     inside_none, inside_large, inside_rest   how many tiles lie inside, by the tile at the part's position
--     part_of_accepted, part_of_words, part_of_fits   the companion's answer; the same by the words of the checked list;
--                      the part lies in the slots
--     slice_place, slice_start   the place of the part, by its position, and where that is 0
--     slice_of_cut      the part itself, cut out of the slots
use mathlib.Core.Path.{◌≡◌, refl, sym, ◌∙◌, ap}
use mathlib.Core.List.Memᴰ
use mathlib.Core.List.{List, [], ◌∷◌}
use Prim.Native.Nat.{ℕ, suc, ◌+◌, ◌*◌, ◌-◌, ◌^◌, ◌≤◌, ◌<◌}
use native.Mathlib.Decide.{dec_lt, dec_le}
use native.Mathlib.Omega.{arith}
use lib.ListN.{length, take, drop, get_or}
use Rattle.basics.specs.Choice.{if}
use Rattle.basics.proofs.Tests.{Test, test_leb, test_and}
use Rattle.basics.proofs.ChoiceLaws.{if_yes, if_no}
use Rattle.refusal.specs.Refusal.{accepted}
use Rattle.refusal.proofs.CheckLaws.{else_on, else_inv, unless_on, unless_off}
use Rattle.tile.specs.declared.Tile.{Tile}
use Rattle.tile.specs.Tile.{stop, tile_of, highest_order}
use Rattle.tile.specs.Slots.{tiles, tiles_in}
use Rattle.tile.proofs.SlotsLaws.{length_tiles_in}
use Rattle.quadtree.specs.Raster.{Aligned, ◌∈◌}
use Rattle.quadtree.specs.Quadtree.{Rising, link}
use Rattle.quadtree.specs.Valid.{Valid}
use Rattle.quadtree.proofs.Alignment.{area_pos, area_mono, aligned_down, aligned_gap, aligned_nest}
use Rattle.quadtree.proofs.Chains.{rising_from, chain_rising, chain_apart}
use Rattle.quadtree.proofs.ValidLaws.{valid_quadrant}
use Rattle.list_check.specs.ListCheck.{list_check}
use Rattle.list_check.proofs.Accepts.{list_check_valid}
use Rattle.list_check.proofs.TreeLaws.{tree_tiles}
use Rattle.checks.specs.Asked.{block_check}
use Rattle.checks.proofs.AskedLaws.{block_passed}
use Rattle.part.specs.declared.Part.{Part}
use Rattle.part.specs.declared.PartAnswer.{PartAnswer}
use Rattle.list_search.specs.Count.{is_ahead, counted}
use Rattle.part.specs.Part.{is_inside, part_check, part_of, slice_of, words_in}
use Rattle.list_search.proofs.CountLaws.{test_ahead, counted_yes, counted_le, counted_none, ahead_none, slot_past, slot_upto}
use Rattle.tile.proofs.SlotTiles.{tiles_in_at, get_d_in}

pub test_inside : (c k : ℕ) (u : Tile) → Test ((c ≤ u.corner) × (stop u ≤ c + 4 ^ k)) (is_inside c k u)
test_inside c k u = test_and (test_leb c u.corner) (test_leb (stop u) (c + 4 ^ k))

module _ (c k : ℕ) where
  -- one tile's part in the three counts
  bits_le : (u : Tile) → if (is_ahead c u) 1 0 + if (is_inside c k u) 1 0 ≤ if (is_ahead (c + 4 ^ k) u) 1 0
  bits_le u = elim (dec_lt u.corner c) [
    | yes b ↦ omega (arith, if_yes {A = ℕ} 1 0 (test_ahead c u) b, if_no {A = ℕ} 1 0 (test_inside c k u) (λ i. omega (arith, i.0)), if_yes {A = ℕ} 1 0 (test_ahead (c + 4 ^ k) u) (omega arith))
    | no b ↦ elim (dec_le (stop u) (c + 4 ^ k)) [
      | yes d ↦ omega (arith, if_no {A = ℕ} 1 0 (test_ahead c u) b, if_yes {A = ℕ} 1 0 (test_inside c k u) (omega arith, d), if_yes {A = ℕ} 1 0 (test_ahead (c + 4 ^ k) u) (omega (arith, area_pos u.size)))
      | no d ↦ omega (arith, if_no {A = ℕ} 1 0 (test_ahead c u) b, if_no {A = ℕ} 1 0 (test_inside c k u) (λ i. d i.1))
    ]
  ]

  bits_all : (u : Tile) → (c ≤ u.corner → u.corner < c + 4 ^ k → stop u ≤ c + 4 ^ k) → if (is_ahead (c + 4 ^ k) u) 1 0 ≤ if (is_ahead c u) 1 0 + if (is_inside c k u) 1 0
  bits_all u lies = elim (dec_lt u.corner (c + 4 ^ k)) [
    | yes d ↦ elim (dec_lt u.corner c) [
      | yes b ↦ omega (arith, if_yes {A = ℕ} 1 0 (test_ahead c u) b, if_yes {A = ℕ} 1 0 (test_ahead (c + 4 ^ k) u) d)
      | no b ↦ omega (arith, if_yes {A = ℕ} 1 0 (test_inside c k u) (omega arith, lies (omega arith) d), if_yes {A = ℕ} 1 0 (test_ahead (c + 4 ^ k) u) d)
    ]
    | no d ↦ omega (arith, if_no {A = ℕ} 1 0 (test_ahead (c + 4 ^ k) u) d)
  ]

  pub inside_le : (us : List Tile) → counted (is_ahead c) us + counted (is_inside c k) us ≤ counted (is_ahead (c + 4 ^ k)) us
  unfolding counted
  inside_le [] = omega arith
  inside_le (u ∷ us) = omega (arith, bits_le u, inside_le us)

  pub inside_all : (us : List Tile) → ((u : Tile) → u ∈ us → c ≤ u.corner → u.corner < c + 4 ^ k → stop u ≤ c + 4 ^ k) → counted (is_ahead (c + 4 ^ k)) us ≤ counted (is_ahead c) us + counted (is_inside c k) us
  unfolding counted
  inside_all [] lies = omega arith
  inside_all (u ∷ us) lies = omega (arith, bits_all u (lies u (Memᴰ.head refl)), inside_all us (λ v i. lies v (Memᴰ.tail i)))

pub first_at : {lo : ℕ} {u : Tile} {us : List Tile} (d : Tile) (c : ℕ) → Rising lo us → u ∈ us → u.corner ≡ c → get_or us (counted (is_ahead c) us) d ≡ u
first_at d c (link {t = t} {ts = ts} h r) (Memᴰ.head e) q =
    let p : t.corner ≡ c = ap (λ (x : Tile). x.corner) (sym e) ∙ q in
    rw (ahead_none c (link {lo = t.corner} {t = t} (omega arith) r) (omega arith)) (sym e)
first_at d c (link {t = t} {ts = ts} h r) (Memᴰ.tail i) q = rw (counted_yes (test_ahead c) t ts (omega (arith, rising_from r i))) (first_at d c r i q)
first_at {u = u} d c (Rattle.quadtree.specs.Quadtree.end {lo = lo}) x7 q = elim x7 [ ]

-- a tile that starts in a block and is larger starts at its corner
larger_corner : {j k x c : ℕ} → k ≤ j → Aligned j x → Aligned k c → c ≤ x → x < c + 4 ^ k → x ≡ c
larger_corner {x = x} {c = c} h m n l g = elim (dec_lt c x) [ yes b ↦ absurd (omega (arith, aligned_gap n (aligned_down h m) b)) | no b ↦ omega arith ]

module _ {n : ℕ} {us : List Tile} (v : Valid n us) (c k : ℕ) (m : Aligned k c) (x : Tile) (at : get_or us (counted (is_ahead c) us) (tile_of 0) ≡ x) where
  lie_inside : x.size ≤ k → (u : Tile) → u ∈ us → c ≤ u.corner → u.corner < c + 4 ^ k → stop u ≤ c + 4 ^ k
  lie_inside small u i l g = elim (dec_le u.size k) [
    | yes s ↦ (aligned_nest s (valid_quadrant v i).aligned m (omega (arith, area_pos u.size)) g).1
    | no s ↦ absurd (s (omega (arith, ap (λ (y : Tile). y.size) (sym at ∙ first_at (tile_of 0) c (chain_rising v.chain) i (larger_corner (omega arith) (valid_quadrant v i).aligned m l g)))))
  ]

  none_inside : x ∈ us → c ≤ x.corner → x.corner < c + 4 ^ k → k < x.size → (u : Tile) → u ∈ us → (c ≤ u.corner) × (stop u ≤ c + 4 ^ k) → ⊥
  none_inside i l g big u j w =
      let e = larger_corner (omega arith) (valid_quadrant v i).aligned m l g in
      let q : 4 ^ suc k ≤ 4 ^ x.size = area_mono big in
      elim (dec_lt c u.corner) [
        | yes b ↦ omega (arith, w.1, area_pos u.size, area_pos k, chain_apart v.chain i j (omega arith))
        | no b ↦ omega (arith, w.1, area_pos k, w.0, ap stop (sym at ∙ first_at (tile_of 0) c (chain_rising v.chain) j (omega (arith, w.0))))
      ]

pub record Block (n t : ℕ) (slots : List ℕ) (c k : ℕ) : Type 0 where
  pub order : n ≤ highest_order
  pub count : t ≤ length slots
  pub valid : Valid n (tiles_in t slots)
  pub size : k ≤ n
  pub inside : c < 4 ^ n
  pub aligned : Aligned k c

pub part_check_passed : (n t : ℕ) (slots : List ℕ) (c k : ℕ) → part_check n t slots c k ≡ accepted → Block n t slots c k
unfolding part_check
part_check_passed n t slots c k e =
    let a = else_inv _ _ e in
    let b = (list_check_valid n t slots).0 a.0 in
    let d = block_passed n c k a.1 in
    record { order = b.0; count = b.1; valid = b.2; size = d.0; inside = d.1.0; aligned = d.1.1 }

-- of a checked list
pub whole_passed : {n c k : ℕ} {ws : List ℕ} → list_check n (length ws) ws ≡ accepted → block_check n c k ≡ accepted → Block n (length ws) ws c k
unfolding part_check
whole_passed {n} {c} {k} {ws} g h = part_check_passed n (length ws) ws c k (else_on _ _ g ∙ h)

module _ {n t : ℕ} {slots : List ℕ} {c k : ℕ} (b : Block n t slots c k) (from to : ℕ) (isFrom : from ≡ counted (is_ahead c) (tiles_in t slots)) (isTo : to ≡ counted (is_ahead (c + 4 ^ k)) (tiles_in t slots)) where
  pub to_le : to ≤ t
  to_le = omega (arith, counted_le (test_ahead (c + 4 ^ k)) (tiles_in t slots), length_tiles_in t slots b.count)

  at_from : from < to → get_or (tiles_in t slots) (counted (is_ahead c) (tiles_in t slots)) (tile_of 0) ≡ tile_of (get_or slots from 0)
  at_from h = rw (← isFrom) (tiles_in_at t slots from (omega (arith, to_le)))

  pub inside_none : to ≤ from → 0 ≡ counted (is_inside c k) (tiles_in t slots)
  inside_none h = omega (arith, inside_le c k (tiles_in t slots))

  pub inside_large : from < to → k < (tile_of (get_or slots from 0)).size → 0 ≡ counted (is_inside c k) (tiles_in t slots)
  inside_large h big =
      let rising = chain_rising b.valid.chain in
      let x = tile_of (get_or slots from 0) in
      let i : x ∈ tiles_in t slots = rw (← tiles_in_at t slots from (omega (arith, to_le))) (get_d_in (tiles_in t slots) from (tile_of 0) (omega (arith, to_le, length_tiles_in t slots b.count))) in
      let l : c ≤ x.corner = elim (dec_lt x.corner c) [ yes d ↦ absurd (omega (arith, slot_past t slots b.count rising from c (omega (arith, to_le)) d)) | no d ↦ omega arith ] in
      let g : x.corner < c + 4 ^ k = elim (dec_le (c + 4 ^ k) x.corner) [ yes d ↦ absurd (omega (arith, slot_upto t slots b.count rising from (c + 4 ^ k) (omega (arith, to_le)) d)) | no d ↦ omega arith ] in
      sym (counted_none (test_inside c k) (tiles_in t slots) (none_inside b.valid c k b.aligned x (at_from h) i l g big))

  pub inside_rest : from < to → (tile_of (get_or slots from 0)).size ≤ k → to - from ≡ counted (is_inside c k) (tiles_in t slots)
  inside_rest h small = omega (arith, inside_le c k (tiles_in t slots), inside_all c k (tiles_in t slots) (lie_inside b.valid c k b.aligned (tile_of (get_or slots from 0)) (at_from h) small))

module _ (n t : ℕ) (slots : List ℕ) (c k : ℕ) where
  part_of_refused : (part_check n t slots c k ≡ accepted → ⊥) → part_of n t slots c k ≡ record { number = part_check n t slots c k; position = 0; length = 0 }
  unfolding part_of
  part_of_refused h = unless_off _ _ _ h

  pub part_of_accepted : part_check n t slots c k ≡ accepted → part_of n t slots c k ≡ record { number = accepted; position = counted (is_ahead c) (tiles_in t slots); length = counted (is_inside c k) (tiles_in t slots) }
  unfolding part_of
  part_of_accepted e = unless_on _ _ _ e

  -- by the words of the checked list
  pub part_of_words : {ws : List ℕ} {p : Part} → list_check n t slots ≡ accepted → block_check n c k ≡ accepted → ws ≡ take t slots → p ≡ record { position = counted (is_ahead c) (tiles ws); length = counted (is_inside c k) (tiles ws) } →
      record { number = accepted; position = p.position; length = p.length } ≡ part_of n t slots c k
  unfolding part_check
  part_of_words g h e f = rw (f, ← tree_tiles t slots e) (sym (part_of_accepted (else_on _ _ g ∙ h)))

  -- the part lies in the slots
  pub part_of_fits : (part_of n t slots c k).position + (part_of n t slots c k).length ≤ length slots
  part_of_fits = elim (dec_lt 0 (part_check n t slots c k)) [
    | yes h ↦ rw (part_of_refused (λ e. omega arith)) (omega arith)
    | no h ↦
        let e : part_check n t slots c k ≡ accepted = omega arith in
        let b = part_check_passed n t slots c k e in
        rw (part_of_accepted e) (omega (arith, inside_le c k (tiles_in t slots), to_le b _ _ refl refl, b.count))
  ]

  -- behind the place o of the slots, 4 bytes for each word ahead
  pub slice_place : (p : PartAnswer) → p ≡ part_of n t slots c k → (o : ℕ × ℕ) → (o.0, p.position * 4 + o.1) ≡ words_in o (part_of n t slots c k).position
  slice_place p e o =
      let h : p.position * 4 + o.1 ≡ o.1 + 4 * p.position = omega arith in
      rw (← e, h)

  -- at the slots' start, where none is ahead
  pub slice_start : (p : PartAnswer) → p ≡ part_of n t slots c k → p.position ≡ 0 → (o : ℕ × ℕ) → o ≡ words_in o (part_of n t slots c k).position
  slice_start p e h o =
      let z : o.1 ≡ o.1 + 4 * p.position = omega (arith, h) in
      rw (← e) (ap (λ (x : ℕ). (o.0, x)) z)

  -- a stretch of the slots from the part's position on, as long as the part
  pub slice_of_cut : (p : PartAnswer) → p ≡ part_of n t slots c k → take (p.position + p.length - p.position) (drop p.position slots) ≡ slice_of n t slots c k
  unfolding slice_of
  slice_of_cut p e =
      let h : p.position + p.length - p.position ≡ p.length = omega arith in
      rw (h, e)
