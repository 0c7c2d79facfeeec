-- Numbers in decimal, as bytes. Definitions only.
--     digits_by k n    the last digits of n, at most k of them
--     digits_most      no number has more digits
--     digits n        n in decimal, for n below 10 ^ digits_most
use Rattle.std.specs.Prelude.{List, [], ◌∷◌, ◌++◌, ℕ, zero, suc, ◌+◌, ◌/◌, ◌%◌, ltb}
use Rattle.basics.specs.Choice.{if}

-- at most k digits, the last first in the recursion: n / 10 and then the last digit, with no needless zero ahead
unfoldable pub digits_by : ℕ → ℕ → List ℕ
digits_by zero n = []
digits_by (suc k) n = if (ltb n 10) ((48 + n) ∷ []) (digits_by k (n / 10) ++ ((48 + n % 10) ∷ []))

abbrev pub digits_most : ℕ
digits_most = 10

abbrev pub digits : ℕ → List ℕ
digits n = digits_by digits_most n
