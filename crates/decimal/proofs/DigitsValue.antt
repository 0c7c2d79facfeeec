-- Laws of a number's digits, read again.
--     digits_places    how many digits a number has
--     digits_only_lem      they are digits
--     value_append     digits behind digits
--     digits_value     reading them gives the number
--     digits_first     there is a first one, and it is no 0 unless the number is 0
use mathlib.Core.Path.{◌≡◌, refl, ap, ◌∙◌}
use mathlib.Core.Bool.{Bool, true, false, ◌&&◌}
use mathlib.Core.List.{List, [], ◌∷◌, ◌++◌}
use Prim.Native.Nat.{ℕ, zero, suc, ◌+◌, ◌-◌, ◌*◌, ◌/◌, ◌%◌, ◌^◌, ◌≤◌, ◌<◌}
use native.Mathlib.Omega.{arith}
use lib.ListN.{length, get_or, length-append, get_or-append}
use Rattle.basics.proofs.Tests.{test_leb}
use Rattle.basics.proofs.ChoiceLaws.{by_if}
use Rattle.decimal.specs.Decimal.{digits_by}
use Rattle.decimal.specs.Value.{zero_digit, is_digit, digits_only, value_from}
use Rattle.decimal.proofs.DecimalLaws.{digits_by_last, digits_by_more}
use Rattle.decimal.proofs.ValueLaws.{digit_is}

pub digits_places : (i k n : ℕ) → i < k → (0 < i → 10 ^ i ≤ n) → n < 10 ^ suc i → length (digits_by k n) ≡ suc i
digits_places zero k n p l h = ap length (digits_by_last k n (λ e. omega arith) (omega arith))
digits_places (suc i) k n p l h =
    let g : 10 ^ suc i ≤ n = l (omega arith) in
    let o : 0 < 10 ^ i = omega arith in
    let e = digits_by_more k n (λ z. omega arith) (omega arith) in
    omega (
      arith,
      ap length e,
      length-append (digits_by (k - 1) (n / 10)) ((48 + n % 10) ∷ []),
      digits_places i (k - 1) (n / 10) (omega arith) (λ z. omega arith) (omega arith),
    )

only_append : (xs ys : List ℕ) → digits_only xs ≡ true → digits_only ys ≡ true → digits_only (xs ++ ys) ≡ true
unfolding digits_only
only_append [] ys e f = f
only_append (x ∷ xs) ys e f = ahead (is_digit x) (digits_only xs) e (only_append xs ys)
  where
    ahead : (a b : Bool) → a && b ≡ true → (b ≡ true → digits_only ys ≡ true → digits_only (xs ++ ys) ≡ true) → a && digits_only (xs ++ ys) ≡ true
    ahead true b g rest = rest g f
    ahead false b g rest = g

pub digits_only_lem : (k n : ℕ) → digits_only (digits_by k n) ≡ true
unfolding digits_by digits_only
digits_only_lem zero n = refl
digits_only_lem (suc k) n =
    by_if (λ (ds : List ℕ). digits_only ds ≡ true) (test_leb (suc n) 10)
    (λ h. rw (digit_is n (omega arith)) refl)
    (λ h. only_append (digits_by k (n / 10)) ((48 + n % 10) ∷ []) (digits_only_lem k (n / 10)) (rw (digit_is (n % 10) (omega arith)) refl))

pub value_append : (xs ys : List ℕ) (v : ℕ) → value_from v (xs ++ ys) ≡ value_from (value_from v xs) ys
unfolding value_from
value_append [] ys v = refl
value_append (x ∷ xs) ys v = value_append xs ys (v * 10 + (x - zero_digit))

pub digits_value : (k n : ℕ) → n < 10 ^ k → value_from 0 (digits_by k n) ≡ n
unfolding digits_by value_from
digits_value zero n h = omega arith
digits_value (suc k) n h =
    by_if (λ (ds : List ℕ). value_from 0 ds ≡ n) (test_leb (suc n) 10)
    (λ g. omega arith)
    (λ g. value_append (digits_by k (n / 10)) ((48 + n % 10) ∷ []) 0 ∙ rw (digits_value k (n / 10) (omega arith)) (omega arith))

pub digits_first : (k n : ℕ) → 0 < n → n < 10 ^ k → (0 < length (digits_by k n)) × (zero_digit < get_or (digits_by k n) 0 0)
unfolding digits_by
digits_first zero n p h = absurd (omega arith)
digits_first (suc k) n p h =
    by_if (λ (ds : List ℕ). (0 < length ds) × (zero_digit < get_or ds 0 0)) (test_leb (suc n) 10)
    (λ g. (omega arith, omega arith))
    (λ g.
    let r = digits_first k (n / 10) (omega arith) (omega arith) in
    let l = (48 + n % 10) ∷ [] in
    (omega (arith, length-append (digits_by k (n / 10)) l), rw (get_or-append (digits_by k (n / 10)) l 0 0 r.0) r.1))
