-- Laws of counts.
--     count_moved   a count stays the same in another order: where each number below n has a place below n, and each
--                   place its number, as many numbers pass a test by place as by number
use mathlib.Core.Path.{◌≡◌, refl, ap, sym, ◌∙◌}
use mathlib.Core.Bool.{Bool}
use Prim.Native.Nat.{ℕ, zero, suc, ◌+◌, ◌<◌}
use native.Mathlib.Decide.{dec_lt}
use native.Mathlib.Omega.{arith}
use lib.Dec.{eqb}
use Rattle.basics.specs.Choice.{if, count}
use Rattle.basics.proofs.Tests.{test_eqb}
use Rattle.basics.proofs.ChoiceLaws.{if_yes, if_no}

unfoldable sum : (ℕ → ℕ) → ℕ → ℕ
sum f zero = 0
sum f (suc n) = f n + sum f n

count_sum : (g : ℕ → Bool) (n : ℕ) → count g n ≡ sum (λ z. if (g z) 1 0) n
unfolding count sum
count_sum g zero = refl
count_sum g (suc n) = ap (λ (x : ℕ). if (g n) 1 0 + x) (count_sum g n)

sum_cong : (f g : ℕ → ℕ) (n : ℕ) → ((z : ℕ) → z < n → f z ≡ g z) → sum f n ≡ sum g n
unfolding sum
sum_cong f g zero e = refl
sum_cong f g (suc n) e = omega (arith, e n (omega arith), sum_cong f g n (λ z h. e z (omega arith)))

sum_none : (f : ℕ → ℕ) (n : ℕ) → ((z : ℕ) → z < n → f z ≡ 0) → sum f n ≡ 0
unfolding sum
sum_none f zero e = refl
sum_none f (suc n) e = omega (arith, e n (omega arith), sum_none f n (λ z h. e z (omega arith)))

-- a sum in which one number alone counts
sum_one : (f : ℕ → ℕ) (n y : ℕ) → y < n → ((z : ℕ) → z < n → (z ≡ y → ⊥) → f z ≡ 0) → sum f n ≡ f y
unfolding sum
sum_one f zero y h e = absurd (omega arith)
sum_one f (suc n) y h e = elim (dec_lt y n) [
  | yes s ↦ omega (arith, e n (omega arith) (λ k. omega arith), sum_one f n y s (λ z l k. e z (omega arith) k))
  | no s ↦ let k : n ≡ y = omega arith in omega (arith, ap f k, sum_none f n (λ z l. e z (omega arith) (λ j. omega arith)))
]

sum_add : (f g : ℕ → ℕ) (n : ℕ) → sum (λ z. f z + g z) n ≡ sum f n + sum g n
unfolding sum
sum_add f g zero = refl
sum_add f g (suc n) = omega (arith, sum_add f g n)

-- a double sum, column by column and row by row
sum_turned : (table : ℕ → ℕ → ℕ) (m n : ℕ) → sum (λ i. sum (table i) n) m ≡ sum (λ z. sum (λ i. table i z) m) n
unfolding sum
sum_turned table zero n = sym (sum_none (λ z. 0) n (λ z h. refl))
sum_turned table (suc m) n = ap (λ (x : ℕ). sum (table m) n + x) (sum_turned table m n) ∙ sym (sum_add (table m) (λ z. sum (λ i. table i z) m) n)

module _ (number place : ℕ → ℕ) (n : ℕ) (number_lt : (i : ℕ) → i < n → number i < n) (place-lt : (z : ℕ) → z < n → place z < n)
    (place_number : (i : ℕ) → i < n → place (number i) ≡ i) (number-place : (z : ℕ) → z < n → number (place z) ≡ z) where
  -- each place has its number alone, and each number its place alone: both are sums of one table
  abbrev table : (ℕ → ℕ) → ℕ → ℕ → ℕ
  table v i z = if (eqb z (number i)) (v z) 0

  sum_places : (v : ℕ → ℕ) (i : ℕ) → i < n → sum (table v i) n ≡ v (number i)
  sum_places v i h =
      sum_one (table v i) n (number i) (number_lt i h) (λ z l k. if_no (v z) 0 (test_eqb z (number i)) k)
      ∙ if_yes (v (number i)) 0 (test_eqb (number i) (number i)) refl

  sum_numbers : (v : ℕ → ℕ) (z : ℕ) → z < n → sum (λ i. table v i z) n ≡ v z
  sum_numbers v z h =
      sum_one (λ i. table v i z) n (place z) (place-lt z h) (λ i l k. if_no (v z) 0 (test_eqb z (number i)) (λ e. k (sym (place_number i l) ∙ ap place (sym e))))
      ∙ if_yes (v z) 0 (test_eqb z (number (place z))) (sym (number-place z h))

  sum_moved : (v : ℕ → ℕ) → sum (λ i. v (number i)) n ≡ sum v n
  sum_moved v =
      sym (sum_cong (λ i. sum (table v i) n) (λ i. v (number i)) n (sum_places v)) ∙ sum_turned (table v) n n ∙ sum_cong (λ z. sum (λ i. table v i z) n) v n (sum_numbers v)

  pub count_moved : (g : ℕ → Bool) → count (λ i. g (number i)) n ≡ count g n
  count_moved g = count_sum (λ i. g (number i)) n ∙ sum_moved (λ z. if (g z) 1 0) ∙ sym (count_sum g n)
