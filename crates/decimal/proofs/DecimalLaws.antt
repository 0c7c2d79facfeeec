-- Laws of digits, and of digits put into a lent buffer.
--     digits_by_most      at most as many digits as there are places
--     digits_by_below     a number below 10 ^ j has at most j digits
--     digits_by_none      no place, no digit
--     digits_by_last      a number below ten is one digit
--     digits_by_more      any other has its last digit behind the digits of its tenth
--     digits_none, digits_last, digits_more    the same of digits put
use mathlib.Core.Path.{◌≡◌, refl}
use mathlib.Core.List.{List, [], ◌∷◌, ◌++◌}
use Prim.Native.Nat.{ℕ, zero, suc, ◌+◌, ◌-◌, ◌/◌, ◌%◌, ◌^◌, ◌≤◌, ◌<◌}
use native.Mathlib.Omega.{arith}
use lib.ListN.{length, length-append}
use Rattle.basics.proofs.Tests.{test_leb}
use Rattle.basics.proofs.ChoiceLaws.{if_yes, if_no, by_if}
use Rattle.text.specs.declared.Writer.{Writer}
use Rattle.text.specs.Puts.{Puts}
use Rattle.text.proofs.PutAtLaws.{puts_none, puts_then}
use Rattle.decimal.specs.Decimal.{digits_by}

pub digits_by_most : (k n : ℕ) → length (digits_by k n) ≤ k
unfolding digits_by
digits_by_most zero n = omega arith
digits_by_most (suc k) n =
    by_if (λ (ds : List ℕ). length ds ≤ suc k) (test_leb (suc n) 10) (λ h. omega arith)
    (λ h. omega (arith, length-append (digits_by k (n / 10)) ((48 + n % 10) ∷ []), digits_by_most k (n / 10)))

pub digits_by_below : (j k n : ℕ) → 0 < j → n < 10 ^ j → length (digits_by k n) ≤ j
unfolding digits_by
digits_by_below j zero n p h = omega arith
digits_by_below zero (suc k) n p h = absurd (omega arith)
digits_by_below (suc zero) (suc k) n p h =
    by_if (λ (ds : List ℕ). length ds ≤ 1) (test_leb (suc n) 10) (λ g. omega arith) (λ g. absurd (omega arith))
digits_by_below (suc (suc j)) (suc k) n p h =
    by_if (λ (ds : List ℕ). length ds ≤ suc (suc j)) (test_leb (suc n) 10) (λ g. omega arith)
    (λ g. omega (arith, length-append (digits_by k (n / 10)) ((48 + n % 10) ∷ []), digits_by_below (suc j) k (n / 10) (omega arith) (omega arith)))

pub digits_by_none : (k n : ℕ) → k ≡ 0 → digits_by k n ≡ []
unfolding digits_by
digits_by_none zero n e = refl
digits_by_none (suc k) n e = absurd (omega arith)

pub digits_by_last : (k n : ℕ) → (k ≡ 0 → ⊥) → n < 10 → digits_by k n ≡ (48 + n) ∷ []
unfolding digits_by
digits_by_last zero n p h = absurd (p refl)
digits_by_last (suc k) n p h = if_yes _ _ (test_leb (suc n) 10) h

pub digits_by_more : (k n : ℕ) → (k ≡ 0 → ⊥) → 10 ≤ n → digits_by k n ≡ digits_by (k - 1) (n / 10) ++ ((48 + n % 10) ∷ [])
unfolding digits_by
digits_by_more zero n p h = absurd (p refl)
digits_by_more (suc k) n p h = let e : suc k - 1 ≡ k = omega arith in rw e (if_no _ _ (test_leb (suc n) 10) (λ g. omega arith))

pub digits_none : (k n : ℕ) (writer : Writer) → k ≡ 0 → Puts (digits_by k n) writer writer
digits_none k n writer e = rw (digits_by_none k n e) (puts_none writer)

module _ (k n : ℕ) (p : k ≡ 0 → ⊥) {d : ℕ} {old new : Writer} where
  pub digits_last : n < 10 → d ≡ 48 + n → Puts (d ∷ []) old new → Puts (digits_by k n) old new
  digits_last h e w = rw (digits_by_last k n p h) (rw e at w)

  pub digits_more : {half : Writer} → 10 ≤ n → d ≡ 48 + n % 10 → Puts (digits_by (k - 1) (n / 10)) old half → Puts (d ∷ []) half new → Puts (digits_by k n) old new
  digits_more h e v w = rw (digits_by_more k n p h) (puts_then v (rw e at w))
