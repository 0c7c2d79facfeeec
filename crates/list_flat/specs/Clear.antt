-- Inner: what the words of a list have at which no fault is found. Definitions only.
--     Clear t u v w       t is aligned and somebody's, u does not start before it ends, and the four are not siblings
--     ClearAt n slots j   so the four tiles of the slots j to j + 3, of which the first starts on the bed
use Rattle.std.specs.Prelude.{◌≡◌, List, ℕ, suc, ◌+◌, ◌^◌, ◌≤◌, ◌<◌, get_or}
use Rattle.tile.specs.declared.Tile.{Tile}
use Rattle.tile.specs.Tile.{stop, tile_of}
use Rattle.quadtree.specs.Raster.{Aligned}
use Rattle.quadtree.specs.Valid.{quarter}

pub record Clear (t u v w : Tile) : Type 0 where
  pub aligned : Aligned t.size t.corner
  pub owned : 0 < t.account
  pub after : stop t ≤ u.corner
  pub apart : (k a p : ℕ) → Aligned (suc k) p → t ≡ quarter k a p 0 → u ≡ quarter k a p 1 → v ≡ quarter k a p 2 →
      w ≡ quarter k a p 3 → ⊥

pub record ClearAt (n : ℕ) (slots : List ℕ) (j : ℕ) : Type 0 where
  pub inside : (tile_of (get_or slots j 0)).corner < 4 ^ n
  pub clear : Clear (tile_of (get_or slots j 0)) (tile_of (get_or slots (j + 1) 0)) (tile_of (get_or slots (j + 2) 0))
      (tile_of (get_or slots (j + 3) 0))
