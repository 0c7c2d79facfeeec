-- A test together with what it tests: `Test P b` says that b is true just if P holds. Proofs go by it, so that none repeats a definition's body.
--     test_leb, test_eqb, test_and, test_not   the tests that definitions use
--     test_map                                 the same test of an equivalent fact
--     by_test                                  a fact of a choice, by the two ends of its test
--     choose_yes, choose_no                    a choice whose test is known to pass, or to fail
--     told_true, told_false                    what a test tells once its outcome is known
--     test_true                                the test of a fact that holds passes
--     test_alike                               two tests of equivalent facts end alike
--     neither                                  where one of two would do and none does, both fail
use mathlib.Core.Path.{◌≡◌, refl, subst}
use mathlib.Core.Bool.{Bool, true, false, ◌&&◌, ◌||◌, not}
use Prim.Native.Nat.{ℕ, ◌≤◌}
use native.Mathlib.Omega.{arith}
use lib.Dec.{T, leb, eqb, leb→le, le→leb, eqb→eq, eqb_refl}
pub use Rattle.basics.specs.Test.{Test, holds, fails}

pub test : {P : Type 0} (b : Bool) → (T b → P) → (P → T b) → Test P b
test true f g = holds (f tt)
test false f g = fails g

pub test_leb : (m n : ℕ) → Test (m ≤ n) (leb m n)
test_leb m n = test (leb m n) (leb→le m n) (le→leb m n)

pub test_eqb : (m n : ℕ) → Test (m ≡ n) (eqb m n)
test_eqb m n = test (eqb m n) (eqb→eq m n) (λ e. subst (λ (x : ℕ). T (eqb m x)) e (eqb_refl m))

pub test_and : {P Q : Type 0} {a b : Bool} → Test P a → Test Q b → Test (P × Q) (a && b)
test_and (holds p) (holds q) = holds (p, q)
test_and (holds p) (fails q) = fails (λ r. q r.1)
test_and (fails p) (holds q) = fails (λ r. p r.0)
test_and (fails p) (fails q) = fails (λ r. p r.0)

pub test_map : {P Q : Type 0} {b : Bool} → (P → Q) → (Q → P) → Test P b → Test Q b
test_map f g (holds p) = holds (f p)
test_map f g (fails p) = fails (λ q. p (g q))

-- a choice by a test of which it is known how it ends
pub choose_yes : {A P : Type 0} {b : Bool} (x y : A) → Test P b → P → (elim b as (λ _. A) [ true ↦ x | false ↦ y ]) ≡ x
choose_yes x y (holds p) q = refl
choose_yes x y (fails p) q = absurd (p q)

pub choose_no : {A P : Type 0} {b : Bool} (x y : A) → Test P b → (P → ⊥) → (elim b as (λ _. A) [ true ↦ x | false ↦ y ]) ≡ y
choose_no x y (holds p) q = absurd (q p)
choose_no x y (fails p) q = refl

pub test_not : {P : Type 0} {b : Bool} → Test P b → Test (P → ⊥) (not b)
test_not (holds p) = fails (λ q. q p)
test_not (fails p) = holds p

-- a fact of a choice, by the two ends of its test
pub by_test : {A P : Type 0} {b : Bool} {x y : A} (Q : A → Type 0) → Test P b → (P → Q x) → ((P → ⊥) → Q y) → Q (elim b as (λ _. A) [ true ↦ x | false ↦ y ])
by_test Q (holds p) f g = f p
by_test Q (fails p) f g = g p

-- what a test tells once its outcome is known
pub told_true : {P : Type 0} {b : Bool} → Test P b → b ≡ true → P
told_true (holds p) e = p
told_true (fails p) e = let z : ◌≡◌ {A = ℕ} 0 1 = cc in absurd (omega arith)

pub told_false : {P : Type 0} {b : Bool} → Test P b → b ≡ false → P → ⊥
told_false (holds p) e q = let z : ◌≡◌ {A = ℕ} 0 1 = cc in omega arith
told_false (fails p) e q = p q

-- the test of a fact that holds passes
pub test_true : {P : Type 0} {b : Bool} → Test P b → P → b ≡ true
test_true (holds p) q = refl
test_true (fails p) q = absurd (p q)

-- two tests of equivalent facts end alike
pub test_alike : {P Q : Type 0} {a b : Bool} → Test P a → Test Q b → (P → Q) → (Q → P) → a ≡ b
test_alike (holds p) (holds q) f g = refl
test_alike (holds p) (fails q) f g = absurd (q (f p))
test_alike (fails p) (holds q) f g = absurd (p (g q))
test_alike (fails p) (fails q) f g = refl

-- where one of two would do and none does, both fail
pub neither : (a b : Bool) → (a || b) ≡ false → (a ≡ false) × (b ≡ false)
neither true b e = absurd (let z : ◌≡◌ {A = ℕ} 0 1 = cc in omega arith)
neither false b e = (refl, e)
