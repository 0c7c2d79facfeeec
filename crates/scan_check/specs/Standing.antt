-- Inner: where a scan by rows stands, as its check compares it with Morton numbers. Definitions only.
--     Stands n s d a   once s pixels of a bed of order n are scanned by rows, d is the row of the next, spread as in a
--                      Morton number, and a its column
use Rattle.std.specs.Prelude.{◌≡◌, ℕ, ◌*◌, ◌/◌, ◌%◌, ◌^◌, ◌≤◌, ◌<◌}
use Rattle.morton.specs.Morton.{morton, side_bits}
use Rattle.tile.specs.Tile.{highest_order}

pub record Stands (n s d a : ℕ) : Type 0 where
  pub order : n ≤ highest_order
  pub unfinished : s < 4 ^ n
  pub down : d ≡ 2 * morton side_bits (s / 2 ^ n) 0
  pub across : a ≡ morton side_bits (s % 2 ^ n) 0
