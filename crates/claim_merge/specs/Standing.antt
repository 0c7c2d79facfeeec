-- Inner: a tile that stands in place of others in a list, and its siblings there. Definitions only.
--     Block c k                     the block of size k at the corner c is a quadrant of the largest bed
--     quadrant_of c k, parent_of c k     which quadrant of its parent the block is, and the parent's corner
--     Beside ts lo hi c k a         the three siblings of the tile of size k and account a at c stand ahead of lo and
--                                   from hi on
--     Stands g n ts a lo hi c k     in the raster g the tile of size k and account a at c stands in place of the tiles
--                                   from lo up to hi
--     Merges g n ts a lo hi c k     and its siblings do not all stand beside it
use Rattle.std.specs.Prelude.{◌≡◌, List, ℕ, ◌+◌, ◌-◌, ◌*◌, ◌/◌, ◌%◌, ◌^◌, ◌≤◌, length, take, drop}
use Rattle.tile.specs.declared.Tile.{Tile}
use Rattle.tile.specs.Tile.{tile, highest_order}
use Rattle.quadtree.specs.Raster.{Aligned}
use Rattle.quadtree.specs.Tiling.{equal_tiles, Between, Apart}

pub record Block (c k : ℕ) : Type 0 where
  pub size : k ≤ highest_order
  pub aligned : Aligned k c
  pub room : c + 4 ^ k ≤ 4 ^ highest_order

abbrev pub quadrant_of : ℕ → ℕ → ℕ
quadrant_of c k = c / 4 ^ k % 4

abbrev pub parent_of : ℕ → ℕ → ℕ
parent_of c k = c - quadrant_of c k * 4 ^ k

pub record Beside (ts : List Tile) (lo hi c k a : ℕ) : Type 0 where
  pub left : quadrant_of c k ≤ lo
  pub right : 3 - quadrant_of c k ≤ length ts - hi
  pub ahead : take (quadrant_of c k) (drop (lo - quadrant_of c k) ts) ≡ equal_tiles k a (quadrant_of c k) (parent_of c k)
  pub behind : take (3 - quadrant_of c k) (drop hi ts) ≡ equal_tiles k a (3 - quadrant_of c k) (c + 4 ^ k)

pub record Stands (g : ℕ → ℕ) (n : ℕ) (ts : List Tile) (a lo hi c k : ℕ) : Type 0 where
  pub order : lo ≤ hi
  pub within : hi ≤ length ts
  pub between : Between g n (take lo ts) (drop hi ts) (tile c k a)

pub record Merges (g : ℕ → ℕ) (n : ℕ) (ts : List Tile) (a lo hi c k : ℕ) : Type 0 where
  pub stands : Stands g n ts a lo hi c k
  pub apart : Apart (take lo ts) (drop hi ts) (tile c k a)
