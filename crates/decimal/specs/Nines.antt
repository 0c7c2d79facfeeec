-- Inner: how large a number gets when digits are written behind it. Definitions only.
--     nines v k    the number v with k nines written behind it: no k digits make a larger one
use Rattle.std.specs.Prelude.{ℕ, zero, suc, ◌+◌, ◌*◌}

unfoldable pub nines : ℕ → ℕ → ℕ
nines v zero = v
nines v (suc k) = nines (v * 10 + 9) k
