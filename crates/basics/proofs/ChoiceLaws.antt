-- Laws of choices, by how the test ends, and of what is asked of the numbers of a stretch.
--     if_yes, if_no     a choice whose test is known to pass, or to fail
--     by_if             a fact of a choice, by the two ends of its test
--     Some P lo n       one of the n numbers from lo on has P
--     test_some         `some` tests it
--     tabulate_length   a table has as many values as are asked for
--     tabulate_at       the value at a place of a table
--     tabulate_cong     a table goes by the function's values on its stretch
use mathlib.Core.Path.{◌≡◌, refl, ap, ap₂, ◌∙◌}
use mathlib.Core.List.{◌∷◌}
use mathlib.Core.Bool.{Bool, ◌||◌}
use Prim.Native.Nat.{ℕ, zero, suc, ◌+◌, ◌≤◌, ◌<◌}
use native.Mathlib.Decide.{dec_lt}
use native.Mathlib.Omega.{arith}
use lib.ListN.{length, get_or}
use Rattle.basics.specs.Choice.{if, some, tabulate}
use Rattle.basics.proofs.Tests.{Test, holds, fails}

pub if_yes : {A P : Type 0} {b : Bool} (x y : A) → Test P b → P → if b x y ≡ x
unfolding if
if_yes x y (holds p) q = refl
if_yes x y (fails p) q = absurd (p q)

pub if_no : {A P : Type 0} {b : Bool} (x y : A) → Test P b → (P → ⊥) → if b x y ≡ y
unfolding if
if_no x y (holds p) q = absurd (q p)
if_no x y (fails p) q = refl

pub by_if : {A P : Type 0} {b : Bool} {x y : A} (Q : A → Type 0) → Test P b → (P → Q x) → ((P → ⊥) → Q y) → Q (if b x y)
unfolding if
by_if Q (holds p) f g = f p
by_if Q (fails p) f g = g p

abbrev pub Some : (ℕ → Type 0) → ℕ → ℕ → Type 0
Some P lo n = (z : ℕ) × (lo ≤ z) × (z < lo + n) × P z

module _ {P : ℕ → Type 0} {g : ℕ → Bool} (t : (z : ℕ) → Test (P z) (g z)) (lo : ℕ) where
  -- the last number, or one before it
  either : {a b : Bool} (n : ℕ) → Test (P (lo + n)) a → Test (Some P lo n) b → Test (Some P lo (suc n)) (a || b)
  either n (holds p) (holds q) = holds (lo + n, omega arith, omega arith, p)
  either n (holds p) (fails q) = holds (lo + n, omega arith, omega arith, p)
  either n (fails p) (holds q) = holds (q.0, q.1, omega (arith, q.2), q.3)
  either n (fails p) (fails q) = fails (λ r. elim (dec_lt r.0 (lo + n)) [
    | yes h ↦ q (r.0, r.1, h, r.3)
    | no h ↦ p (let e : r.0 ≡ lo + n = omega (arith, r.2) in rw e at r.3)
  ])

  pub test_some : (n : ℕ) → Test (Some P lo n) (some g lo n)
  unfolding some
  test_some zero = fails (λ r. omega (arith, r.1, r.2))
  test_some (suc n) = either n (t (lo + n)) (test_some n)

pub tabulate_length : (g : ℕ → ℕ) (lo n : ℕ) → length (tabulate g lo n) ≡ n
unfolding tabulate
tabulate_length g lo zero = refl
tabulate_length g lo (suc n) = ap suc (tabulate_length g (suc lo) n)

pub tabulate_at : (g : ℕ → ℕ) (lo n i : ℕ) → i < n → get_or (tabulate g lo n) i 0 ≡ g (lo + i)
unfolding tabulate
tabulate_at g lo zero i h = absurd (omega arith)
tabulate_at g lo (suc n) zero h = ap g (omega arith)
tabulate_at g lo (suc n) (suc i) h = tabulate_at g (suc lo) n i (omega arith) ∙ ap g (omega arith)

pub tabulate_cong : (f g : ℕ → ℕ) (lo n : ℕ) → ((z : ℕ) → lo ≤ z → z < lo + n → f z ≡ g z) → tabulate f lo n ≡ tabulate g lo n
unfolding tabulate
tabulate_cong f g lo zero e = refl
tabulate_cong f g lo (suc n) e = ap₂ ◌∷◌ (e lo (omega arith) (omega arith)) (tabulate_cong f g (suc lo) n (λ z l h. e z (omega arith) (omega arith)))
