-- The test of check 16 by the bits in which four words differ.
--     four_within     the last of four siblings differs from the others in nothing but the corner, and there by less than their block
--     within_four     and a sound word that does so is the last of four siblings
--     last_by_words   so that a test of the one is the test of the other
use mathlib.Core.Path.{◌≡◌, refl, ap, sym, ◌∙◌}
use mathlib.Core.Bool.{Bool}
use mathlib.Core.List.{List, [], ◌∷◌}
use Prim.Native.Nat.{ℕ, suc, ◌*◌, ◌/◌, ◌^◌, ◌≤◌}
use native.Mathlib.Nat.{div-add-mod', mod-lt}
use native.Mathlib.Omega.{arith}
use lib.Bits.{bit_or, bit_xor}
use Rattle.basics.proofs.Tests.{Test, test_alike}
use Rattle.tile.specs.declared.Tile.{Tile}
use Rattle.tile.specs.Tile.{stop, tile_of}
use Rattle.tile.proofs.WordBits.{Within, Alike, within_or, within_xor}
use Rattle.quadtree.specs.Raster.{Aligned}
use Rattle.quadtree.specs.Valid.{Sound}
use Rattle.quadtree.proofs.Alignment.{area_pos, aligned_next, aligned_down, aligned_gap}
use Rattle.quadtree.proofs.Siblings.{Siblings, followed, same_tile, siblings_quarters}
use Rattle.list_flat.proofs.FaultLaws.{quarters_within}
use Rattle.list_check.specs.declared.Ahead.{Ahead}
use Rattle.list_check.specs.ListCheck.{last_of_four, ended}
use Rattle.list_check.specs.Pass.{Knows}
use Rattle.list_check.proofs.LastOfFour.{Last, test_last}

-- the bits in which the words x, y, z, w are not the same
abbrev apart : ℕ → ℕ → ℕ → ℕ → ℕ
apart x y z w = bit_or (bit_or (bit_xor x y) (bit_xor x z)) (bit_xor x w)

siblings_within : (x y z w : ℕ) {t u v s : Tile} → tile_of x ≡ t → tile_of y ≡ u → tile_of z ≡ v → tile_of w ≡ s → Siblings t u v s → Within (suc t.size) (apart x y z w)
siblings_within x y z w {t} ex ey ez ew b =
    let q = siblings_quarters b in
    quarters_within t.size t.account t.corner b.aligned x y z w (ex ∙ q.first) (ey ∙ q.second) (ez ∙ q.third) (ew ∙ q.fourth)

four_within : {a : Ahead} {seen : List Tile} (w : ℕ) → Knows a seen → Last seen (tile_of w) → Within (suc (tile_of w).size) (apart a.first a.second a.third w)
four_within {seen = []} w g b = absurd b
four_within {seen = z ∷ []} w g b = absurd b
four_within {seen = z ∷ y ∷ []} w g b = absurd b
four_within {a = a} {seen = z ∷ y ∷ x ∷ seen} w g b =
    let k : x.size ≡ (tile_of w).size = omega (arith, followed b.second, followed b.third, followed b.fourth) in
    rw (← k) (siblings_within a.first a.second a.third w g.first g.second g.third refl b)

-- four tiles of one size and account, each behind the one ahead of it, in one block of four of them
module _ (x y z t : Tile) (m : Aligned t.size t.corner) (hy : stop x ≤ y.corner) (hz : stop y ≤ z.corner) (ht : stop z ≤ t.corner) where
  siblings_of : x.size ≡ t.size → y.size ≡ t.size → z.size ≡ t.size → x.account ≡ t.account → y.account ≡ t.account → z.account ≡ t.account → x.corner / 4 ^ suc t.size ≡ t.corner / 4 ^ suc t.size → Siblings x y z t
  siblings_of kx ky kz ax ay az e =
      let q = t.corner / 4 ^ suc t.size in
      let ex = ap (λ (k : ℕ). 4 ^ k) kx in
      let ey = ap (λ (k : ℕ). 4 ^ k) ky in
      let ez = ap (λ (k : ℕ). 4 ^ k) kz in
      let bx = rw e at (div-add-mod' x.corner (4 ^ suc t.size)) in
      let bt = div-add-mod' t.corner (4 ^ suc t.size) in
      let lt = mod-lt t.corner (area_pos (suc t.size)) in
      let block : Aligned (suc t.size) (q * 4 ^ suc t.size) = record { times = q; is = refl } in
      let gap = aligned_gap m (aligned_down {j = t.size} (omega arith) (aligned_next block)) (omega arith) in
      record { aligned = rw kx (record { times = q; is = omega arith }); second = same_tile (omega arith) (omega arith) (omega arith); third = same_tile (omega arith) (omega arith) (omega arith); fourth = same_tile (omega arith) (omega arith) (omega arith) }

-- what the words have in common
record Common (k x y z w : ℕ) : Type 0 where
  first : Alike k x w
  second : Alike k x y
  third : Alike k x z

common : (k x y z w : ℕ) → Within k (apart x y z w) → Common k x y z w
common k x y z w p =
    let a = within_or k (bit_or (bit_xor x y) (bit_xor x z)) (bit_xor x w) p in
    let b = within_or k (bit_xor x y) (bit_xor x z) a.0 in
    record { first = within_xor k x w a.1; second = within_xor k x y b.0; third = within_xor k x z b.1 }

-- a word whose tile is somebody's has another account than the word 0
module _ {n : ℕ} {a : Ahead} {seen : List Tile} (w : ℕ) (g : Knows a seen) (s : Sound n (ended seen) (tile_of w)) (p : Within (suc (tile_of w).size) (apart a.first a.second a.third w)) where
  few : tile_of a.first ≡ tile_of 0 → ⊥
  unfolding tile_of
  few e = omega (arith, (common _ a.first a.second a.third w p).first.account, ap (λ (t : Tile). t.account) e, s.quadrant.owned)

within_four : {n : ℕ} {a : Ahead} {seen : List Tile} (w : ℕ) → Knows a seen → Sound n (ended seen) (tile_of w) → Within (suc (tile_of w).size) (apart a.first a.second a.third w) → Last seen (tile_of w)
unfolding ended
within_four {seen = []} w g s p = absurd (few w g s p g.first)
within_four {seen = z ∷ []} w g s p = absurd (few w g s p g.first)
within_four {seen = z ∷ y ∷ []} w g s p = absurd (few w g s p g.first)
within_four {a = a} {seen = z ∷ y ∷ x ∷ seen} w g s p =
    let c = common _ a.first a.second a.third w p in
    let ex = ap (λ (t : Tile). t.size) g.first in
    let ey = ap (λ (t : Tile). t.size) g.second in
    let ez = ap (λ (t : Tile). t.size) g.third in
    let ax = ap (λ (t : Tile). t.account) g.first in
    let ay = ap (λ (t : Tile). t.account) g.second in
    let az = ap (λ (t : Tile). t.account) g.third in
    siblings_of x y z (tile_of w) s.quadrant.aligned g.rises.1.0 g.rises.0 s.after
    (omega (arith, c.first.size)) (omega (arith, c.first.size, c.second.size)) (omega (arith, c.first.size, c.third.size))
    (omega (arith, c.first.account)) (omega (arith, c.first.account, c.second.account)) (omega (arith, c.first.account, c.third.account))
    (ap (λ (t : Tile). t.corner / 4 ^ suc (tile_of w).size) (sym g.first) ∙ c.first.block)

pub last_by_words : {n : ℕ} {a : Ahead} {seen : List Tile} (w : ℕ) {b : Bool} → Knows a seen → Sound n (ended seen) (tile_of w) → Test (Within (suc (tile_of w).size) (apart a.first a.second a.third w)) b → b ≡ last_of_four seen (tile_of w)
last_by_words {seen = seen} w g s t = test_alike t (test_last seen (tile_of w)) (within_four w g s) (four_within w g)
