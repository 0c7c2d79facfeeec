-- Calls that are handed no map (document 01, "What the product holds"; the checks are those of "Refusals by the place of
-- the check"). Definitions only.
--     extent_of n          the columns (and rows) and the pixels of a bed of order n: 1
--     number_of n c r      the Morton number of the point in column c and row r: 1, 31
--     around_of n c r k    the block of size k that has this point in it: 1, 31, 32
--     point_of n z         the point of the Morton number z: 1, and 32 where no block of size 0 is
--     point_asked, around_asked, number_asked   their checks
use Rattle.std.specs.Prelude.{ℕ, ◌^◌, leb}
use Rattle.refusal.specs.Refusal.{accepted, block_invalid}
use Rattle.refusal.specs.Checks.{must, or_else, unless}
use Rattle.morton.specs.Morton.{morton, column, row}
use Rattle.tile.specs.Tile.{corner_at}
use Rattle.checks.specs.Asked.{order_check, point_check, block_check}
use Rattle.points.specs.declared.ExtentAnswer.{ExtentAnswer}
use Rattle.points.specs.declared.MortonAnswer.{MortonAnswer}
use Rattle.points.specs.declared.BlockAnswer.{BlockAnswer}
use Rattle.points.specs.declared.PointAnswer.{PointAnswer}

unfoldable pub extent_of : ℕ → ExtentAnswer
extent_of n =
    unless (order_check n)
    (λ number. record { number = number; side = 0; pixels = 0 })
    (record { number = accepted; side = 2 ^ n; pixels = 4 ^ n })

unfoldable pub point_asked : ℕ → ℕ → ℕ → ℕ
point_asked n c r = or_else (order_check n) (point_check n c r)

unfoldable pub number_of : ℕ → ℕ → ℕ → MortonAnswer
number_of n c r =
    unless (point_asked n c r)
    (λ number. record { number = number; morton = 0 })
    (record { number = accepted; morton = morton n c r })

unfoldable pub around_asked : ℕ → ℕ → ℕ → ℕ → ℕ
around_asked n c r k = or_else (point_asked n c r) (must (leb k n) block_invalid accepted)

unfoldable pub around_of : ℕ → ℕ → ℕ → ℕ → BlockAnswer
around_of n c r k =
    unless (around_asked n c r k)
    (λ number. record { number = number; corner = 0; size = 0 })
    (record { number = accepted; corner = corner_at k (morton n c r); size = k })

unfoldable pub number_asked : ℕ → ℕ → ℕ
number_asked n z = or_else (order_check n) (block_check n z 0)

unfoldable pub point_of : ℕ → ℕ → PointAnswer
point_of n z =
    unless (number_asked n z)
    (λ number. record { number = number; column = 0; row = 0 })
    (record { number = accepted; column = column n z; row = row n z })
