-- Laws of hundredths of a mil and pixels.
--     smallest_of       the smallest h of a pixel lies in it, and nothing smaller does
--     side_most         no bed has more pixels along a side than the largest
--     smallest_most     the smallest h of the largest bed's last pixel; smallest-limit, so its text has the form
--     places_of         how many digits a number has, by its logarithm
use Prim.Native.Nat.{ℕ, zero, suc, max, ◌+◌, ◌*◌, ◌^◌, ◌≤◌, ◌<◌}
use mathlib.Core.Path.{◌≡◌, sym}
use lib.ListN.{length}
use Rattle.decimal.specs.Decimal.{digits_most, digits}
use Rattle.decimal.proofs.DigitsValue.{digits_places}
use native.Mathlib.Decide.{dec_lt}
use native.Mathlib.Omega.{arith}
use native.Mathlib.Nat.{pow-le-pow_right}
use Rattle.tile.specs.Tile.{highest_order}
use Rattle.mils.specs.Mils.{smallest_in, Smallest}
use Rattle.mils.specs.Position.{hundredths_limit}

pub smallest_of : (p : ℕ) → Smallest p (smallest_in p)
smallest_of p = record { lies = omega arith; least = λ i e. omega arith }

pub side_most : (n : ℕ) → n ≤ highest_order → 2 ^ n ≤ 2 ^ highest_order
side_most n h = pow-le-pow_right (omega arith) h

pub smallest_most : (p : ℕ) → p < 2 ^ highest_order → smallest_in p ≤ 1611024
smallest_most p h = omega arith

pub smallest_limit : (n p : ℕ) → n ≤ highest_order → p < 2 ^ n → smallest_in p < hundredths_limit
smallest_limit n p o h = omega (arith, smallest_most p (omega (arith, side_most n o)))

-- the logarithm of a number, or of 1 in place of 0, is one less than its digits
below_most : (i m : ℕ) → 10 ^ i ≤ m → m < 10 ^ digits_most → i < digits_most
below_most i m p h = elim (dec_lt i digits_most) [
  | yes l ↦ l
  | no l ↦ let q : 10 ^ digits_most ≤ 10 ^ i = pow-le-pow_right {n = 10} (omega arith) {i = digits_most} {j = i} (omega arith) in absurd (omega arith)
]

pub places_of : (i m n : ℕ) → m ≡ max n 1 → 10 ^ i ≤ m → m < 10 * 10 ^ i → n < 10 ^ 5 → i + 1 ≡ length (digits n)
places_of zero m n e p l h = sym (digits_places 0 digits_most n (omega arith) (λ z. absurd (omega arith)) (omega arith))
places_of (suc i) m n e p l h =
    let o : 0 < 10 ^ i = omega arith in
    omega (arith, digits_places (suc i) digits_most n (below_most (suc i) m p (omega arith)) (λ z. omega arith) (omega arith))
