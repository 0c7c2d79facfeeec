-- What the checks of a table test.
--     Bits t, test_bits             no byte is above 1
--     bits_all                      asked of each byte
--     test_said                     a test of itself
--     Every t r s k, test_every     in the first k columns row r has every yes of row s
--     every_not, every_all          a yes that row r lacks decides; so do all columns together
use mathlib.Core.Path.{◌≡◌, refl, sym, ◌∙◌}
use mathlib.Core.Bool.{Bool, true, false, ◌||◌, not}
use mathlib.Core.List.{List, [], ◌∷◌}
use Prim.Native.Nat.{ℕ, zero, suc, ◌≤◌, ◌<◌}
use native.Mathlib.Omega.{arith}
use native.Mathlib.Decide.{dec_lt}
use lib.ListN.{length, get_or}
use Rattle.std.specs.List.{list_all}
use Rattle.std.specs.Prelude.{nat_le}
use Rattle.basics.proofs.Tests.{Test, holds, fails, test_leb, test_and, test_map, test_true, told_true}
use Rattle.table.specs.Table.{columns, says}
use Rattle.table.specs.Load.{bits_only, has_every}

never : false ≡ true → ⊥
never e = told_true (fails (λ q. q)) e

abbrev pub Bits : List ℕ → Type 0
Bits t = (i : ℕ) → i < length t → get_or t i 0 ≤ 1

bits_cons : (b : ℕ) (bs : List ℕ) → b ≤ 1 → Bits bs → Bits (b ∷ bs)
bits_cons b bs h p zero l = h
bits_cons b bs h p (suc i) l = p i (omega arith)

pub test_bits : (t : List ℕ) → Test (Bits t) (bits_only t)
unfolding bits_only
test_bits [] = holds (λ i h. absurd (omega arith))
test_bits (b ∷ bs) = test_map (λ p. bits_cons b bs p.0 p.1) (λ p. (p 0 (omega arith), λ i h. p (suc i) (omega arith))) (test_and (test_leb b 1) (test_bits bs))

false_is : {P : Type 0} {b : Bool} → Test P b → (P → ⊥) → false ≡ b
false_is (holds p) q = absurd (q p)
false_is (fails p) q = refl

pub bits_all : (t : List ℕ) → list_all (λ b. nat_le b 1) t ≡ bits_only t
unfolding bits_only
bits_all [] = refl
bits_all (b ∷ bs) = rw (bits_all bs) refl

abbrev pub Every : List ℕ → ℕ → ℕ → ℕ → Type 0
Every t r s k = (j : ℕ) → j < k → says t s j ≡ true → says t r j ≡ true

pub test_said : (b : Bool) → Test (b ≡ true) b
test_said true = holds refl
test_said false = fails never

test_implies : (a b : Bool) → Test (a ≡ true → b ≡ true) (not a || b)
test_implies true true = holds (λ e. refl)
test_implies true false = fails (λ p. never (p refl))
test_implies false true = holds (λ e. refl)
test_implies false false = holds (λ e. e)

every_suc : (t : List ℕ) (r s k : ℕ) → Every t r s k → (says t s k ≡ true → says t r k ≡ true) → Every t r s (suc k)
every_suc t r s k p q j h e = elim (dec_lt j k) [
  | yes l ↦ p j l e
  | no l ↦ let i : j ≡ k = omega arith in rw (sym i) at q e
]

pub test_every : (t : List ℕ) (r s k : ℕ) → Test (Every t r s k) (has_every t r s k)
unfolding has_every
test_every t r s zero = holds (λ j h. absurd (omega arith))
test_every t r s (suc k) =
    test_map (λ p. every_suc t r s k p.0 p.1) (λ p. (λ j h. p j (omega arith), p k (omega arith)))
    (test_and (test_every t r s k) (test_implies (says t s k) (says t r k)))

module _ (t : List ℕ) (r s k : ℕ) where
  pub every_not : k < columns → says t s k ≡ true → says t r k ≡ false → false ≡ has_every t r s columns
  every_not h e f = false_is (test_every t r s columns) (λ p. never (sym f ∙ p k h e))

  pub every_all : columns ≤ k → Every t r s k → true ≡ has_every t r s columns
  every_all h p = sym (test_true (test_every t r s columns) (λ j l. p j (omega arith)))
