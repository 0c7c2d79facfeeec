-- Morton numbers (document 01, "What the product holds"; document 001). Definitions only.
--     morton n c r   the Morton number of column c and row r, n bits of each: with c = (..a1 a0) and r = (..b1 b0),
--                    (..b1 a1 b0 a0)
--     column n z     the column of the Morton number z, of n bits: the bits of z at even places
--     row n z        the row of the Morton number z, of n bits: the bits of z at odd places
--     Square n k d c r   on a bed of order n, column c and row r lie in the square of 2 ^ k by 2 ^ k pixels whose
--                    north-western pixel has the Morton number d
--     side_bits       the bits of a column or a row in code: columns and rows below 1,024
-- A bed of order n has columns and rows of n bits.
use Rattle.std.specs.Prelude.{ℕ, zero, suc, ◌+◌, ◌*◌, ◌/◌, ◌%◌, ◌^◌, ◌≤◌, ◌<◌}

unfoldable pub morton : ℕ → ℕ → ℕ → ℕ
morton zero c r = 0
morton (suc n) c r = 4 * morton n (c / 2) (r / 2) + (2 * (r % 2) + c % 2)

unfoldable pub column : ℕ → ℕ → ℕ
column zero z = 0
column (suc n) z = 2 * column n (z / 4) + z % 2

unfoldable pub row : ℕ → ℕ → ℕ
row zero z = 0
row (suc n) z = 2 * row n (z / 4) + z / 2 % 2

pub record Square (n k d c r : ℕ) : Type 0 where
  pub west : column n d ≤ c
  pub east : c < column n d + 2 ^ k
  pub north : row n d ≤ r
  pub south : r < row n d + 2 ^ k

abbrev pub side_bits : ℕ
side_bits = 10
