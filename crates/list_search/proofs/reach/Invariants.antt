-- The loop keeps that the tile ahead of `low` starts below z; the last step holds the place.
use Rattle.tile.specs.Tile.{tile_of}
use Prim.Native.Nat.{◌-◌, ◌≤◌, ◌<◌}
use lib.ListN.{length, get_or}
use Rattle.list_search.proofs.reach.Given as goal

abbrev pub invariant-loop-low : goal.invariant-loop-low
invariant-loop-low l = (l.from ≤ l.low) × (l.low ≤ length l.slots) × (l.from < l.low → (tile_of (get_or l.slots (l.low - 1) 0)).corner < l.z)

abbrev pub decreases-loop-low : goal.decreases-loop-low
decreases-loop-low l = length l.slots - l.low
