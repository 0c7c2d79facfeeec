-- Choices by a test, and what is asked of the numbers of a stretch. Definitions only.
--     if b x y          x where the test b passes, else y
--     some g lo n       one of the n numbers from lo on passes the test g
--     count g n         how many of the numbers below n pass the test g
--     tabulate g lo n   the values of g at the n numbers from lo on
use Rattle.std.specs.Prelude.{Bool, true, false, ◌||◌, List, [], ◌∷◌, ℕ, zero, suc, ◌+◌}

unfoldable pub if : {A : Type 0} → Bool → A → A → A
if true x y = x
if false x y = y

unfoldable pub some : (ℕ → Bool) → ℕ → ℕ → Bool
some g lo zero = false
some g lo (suc n) = g (lo + n) || some g lo n

unfoldable pub count : (ℕ → Bool) → ℕ → ℕ
unfolding if
count g zero = 0
count g (suc n) = if (g n) 1 0 + count g n

unfoldable pub tabulate : (ℕ → ℕ) → ℕ → ℕ → List ℕ
tabulate g lo zero = []
tabulate g lo (suc n) = g lo ∷ tabulate g (suc lo) n
