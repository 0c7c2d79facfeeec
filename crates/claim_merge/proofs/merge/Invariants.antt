-- While the three siblings stand beside the tile, its parent takes their place.
use mathlib.Core.Path.{◌≡◌}
use mathlib.Core.List.{map}
use Prim.Native.Nat.{◌+◌, ◌-◌}
use lib.ListN.{length}
use Rattle.tile.specs.Tile.{tile_of}
use Rattle.quadtree.specs.Raster.{account_at}
use Rattle.bed.specs.Bed.{claimed}
use Rattle.claim_merge.specs.Standing.{Stands}
use Rattle.claim_merge.proofs.merge.Given as goal

abbrev pub invariant-loop-corner : goal.invariant-loop-corner
invariant-loop-corner l = (l.merged.tile.account ≡ l.fn.standing.tile.account)
    × Stands (claimed (account_at (map tile_of l.list)) l.fn.standing.tile.corner l.fn.standing.tile.size l.fn.standing.tile.account) l.order (map tile_of l.list) l.fn.standing.tile.account l.merged.lo l.merged.hi l.merged.tile.corner l.merged.tile.size

abbrev pub decreases-loop-corner : goal.decreases-loop-corner
decreases-loop-corner l = l.merged.lo + (length l.list - l.merged.hi)
