-- Inner: where a Morton number falls among words. Definitions only.
--     Cut s i j z r   r lies from i to j; of the words between these, the tile of the one ahead of r starts below z,
--                     and that of the one at r does not
use Rattle.std.specs.Prelude.{ℕ, ◌-◌, ◌≤◌, ◌<◌, List, get_or}
use Rattle.tile.specs.Tile.{tile_of}

pub record Cut (s : List ℕ) (i j z r : ℕ) : Type 0 where
  pub from : i ≤ r
  pub to : r ≤ j
  pub ahead : i < r → (tile_of (get_or s (r - 1) 0)).corner < z
  pub behind : r < j → z ≤ (tile_of (get_or s r 0)).corner
