-- Inner: what a quad, a square of two by two pixels, weighs: the slots that its tiles may take while its pixels are put
-- one by one, but for one slot more in one quad at a time (`filled_weight`). Definitions only.
--     one a            1 for somebody's account, 0 for nobody's
--     weight a b c d   of the accounts a, b, c, d: 2 where all four are one somebody's, else how many are somebody's
--     total g lo n     the sum of g over the n numbers from lo on
use Rattle.std.specs.Prelude.{◌&&◌, ℕ, zero, suc, ◌+◌, eqb}
use Rattle.basics.specs.Choice.{if}

unfoldable pub one : ℕ → ℕ
one zero = 0
one (suc a) = 1

unfoldable pub weight : ℕ → ℕ → ℕ → ℕ → ℕ
weight a b c d = if (eqb a b && (eqb b c && eqb c d)) (one a + one a) (one a + one b + (one c + one d))

unfoldable pub total : (ℕ → ℕ) → ℕ → ℕ → ℕ
total g lo zero = 0
total g lo (suc n) = total g lo n + g (lo + n)
