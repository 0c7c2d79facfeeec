-- Whether a block is scanned: its last pixel decides, since it comes last in the scan, whatever its kind.
--     AllScanned k n s c j   each pixel of the block of size j at the corner c is scanned once s pixels are
--     test_unscanned         what `unscanned_in` tests; test-scanned, the same of its negation
--     place_upto             no pixel of a block comes later than its last one
--     unscanned_last         a block has a pixel that is not scanned just if its last pixel is none
use mathlib.Core.Path.{◌≡◌, ap}
use mathlib.Core.Bool.{not}
use Prim.Native.Nat.{ℕ, suc, ◌+◌, ◌-◌, ◌^◌, ◌≤◌, ◌<◌}
use native.Mathlib.Decide.{dec_lt}
use native.Mathlib.Omega.{arith}
use lib.Dec.{leb}
use Rattle.basics.proofs.Tests.{Test, test_leb, test_not, test_map, test_alike}
use Rattle.basics.proofs.ChoiceLaws.{Some, test_some}
use Rattle.quadtree.specs.Raster.{Aligned}
use Rattle.quadtree.proofs.Alignment.{area_pos}
use Rattle.bed.specs.declared.Kind.{Kind}
use Rattle.bed.specs.Places.{place_of, scanned, unscanned_in}
use Rattle.bed.proofs.PlaceLaws.{place_of_last}

pub test_unscanned : (k : Kind) (n s c j : ℕ) → Test (Some (λ z. place_of k n z < s → ⊥) c (4 ^ j)) (unscanned_in k n s c j)
unfolding scanned
test_unscanned k n s c j = test_some (λ z. test_not (test_leb (suc (place_of k n z)) s)) c (4 ^ j)

abbrev pub AllScanned : Kind → ℕ → ℕ → ℕ → ℕ → Type 0
AllScanned k n s c j = (z : ℕ) → c ≤ z → z < c + 4 ^ j → place_of k n z < s

pub test_scanned : (k : Kind) (n s c j : ℕ) → Test (AllScanned k n s c j) (not (unscanned_in k n s c j))
test_scanned k n s c j = test_map
    (λ (w : Some (λ z. place_of k n z < s → ⊥) c (4 ^ j) → ⊥) z l h. elim (dec_lt (place_of k n z) s) [ yes g ↦ g | no g ↦ absurd (w (z, l, h, g)) ])
    (λ a w. w.3 (a w.0 w.1 w.2))
    (test_not (test_unscanned k n s c j))

module _ (k : Kind) (n s c j : ℕ) (m : Aligned j c) (room : c + 4 ^ j ≤ 4 ^ n) where
  pub place_upto : (z : ℕ) → c ≤ z → z < c + 4 ^ j → place_of k n z ≤ place_of k n (c + 4 ^ j - 1)
  place_upto z l h = elim (dec_lt (z + 1) (c + 4 ^ j)) [
    | yes g ↦ omega (arith, place_of_last k n z m l g room)
    | no g ↦ let e : z ≡ c + 4 ^ j - 1 = omega arith in omega (arith, ap (place_of k n) e)
  ]

  pub unscanned_last : leb s (place_of k n (c + 4 ^ j - 1)) ≡ unscanned_in k n s c j
  unscanned_last = test_alike (test_leb s (place_of k n (c + 4 ^ j - 1))) (test_unscanned k n s c j)
      (λ h. (c + 4 ^ j - 1, omega (arith, area_pos j), omega (arith, area_pos j), λ l. omega arith))
      (λ w. elim (dec_lt (place_of k n w.0) s) [ yes g ↦ absurd (w.3 g) | no g ↦ omega (arith, place_upto w.0 w.1 w.2) ])
