-- Inner: a block of one account inside a block of another. Definitions only.
--     Split g k c a v s d   g has the account a on the block of size k at c, and v on the rest of the block of size s
--                           at d around it
--     pieces k c a v l d    the tiles of such a block, l levels above the inner one
use Rattle.std.specs.Prelude.{◌≡◌, List, ◌++◌, ℕ, zero, suc, ◌+◌, ◌-◌, ◌*◌, ◌/◌, ◌^◌, ◌≤◌, ◌<◌}
use Rattle.tile.specs.declared.Tile.{Tile}
use Rattle.quadtree.specs.Raster.{Aligned, Uniform}
use Rattle.quadtree.specs.Quadtree.{single}
use Rattle.quadtree.specs.Tiling.{equal_tiles}

pub record Split (g : ℕ → ℕ) (k c a v s d : ℕ) : Type 0 where
  pub aligned : Aligned k c
  pub outer : Aligned s d
  pub sizes : k ≤ s
  pub from : d ≤ c
  pub upto : c + 4 ^ k ≤ d + 4 ^ s
  pub inside : Uniform g a c (c + 4 ^ k)
  pub outside : (z : ℕ) → d ≤ z → z < d + 4 ^ s → ((c ≤ z) × (z < c + 4 ^ k) → ⊥) → g z ≡ v
  pub differ : k < s → a ≡ v → ⊥
  pub owned : k < s → 0 < v

unfoldable pub pieces : ℕ → ℕ → ℕ → ℕ → ℕ → ℕ → List Tile
pieces k c a v zero d = single c k a
pieces k c a v (suc l) d =
    equal_tiles (k + l) v ((c - d) / 4 ^ (k + l)) d ++ (pieces k c a v l (d + (c - d) / 4 ^ (k + l) * 4 ^ (k + l))
    ++ equal_tiles (k + l) v (3 - (c - d) / 4 ^ (k + l)) (d + (c - d) / 4 ^ (k + l) * 4 ^ (k + l) + 4 ^ (k + l)))
