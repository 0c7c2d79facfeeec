-- Inner: where a Morton number falls among words by their tiles' stops. Definitions only.
--     FirstPast s from x r   r splits the tiles from `from` on at x: the tile just ahead of r stops by x, that at r
--                            past it
use Rattle.std.specs.Prelude.{List, ℕ, ◌-◌, ◌≤◌, ◌<◌, length, get_or}
use Rattle.tile.specs.Tile.{stop, tile_of}

pub record FirstPast (s : List ℕ) (from x r : ℕ) : Type 0 where
  pub low : from ≤ r
  pub high : r ≤ length s
  pub ahead : from < r → stop (tile_of (get_or s (r - 1) 0)) ≤ x
  pub past : r < length s → x < stop (tile_of (get_or s r 0))
