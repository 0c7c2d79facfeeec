-- The words are written in turn: what is left to write makes the slots that are promised.
use mathlib.Core.List.{map}
use lib.ListN.{length}
use Rattle.tile.specs.Tile.{word_of}
use Rattle.quadtree.specs.Tiling.{equal_tiles}
use Rattle.list_equal.proofs.Turns.{Writing}
use Rattle.list_equal.proofs.write_equal.Given as goal

abbrev pub invariant-loop-slot : goal.invariant-loop-slot
invariant-loop-slot l = Writing l.fn.first (map word_of (equal_tiles l.fn.first.size l.fn.first.account (length l.initial.slots) l.fn.first.corner)) l.slots l.slot-index l.tile
