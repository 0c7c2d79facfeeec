-- Tiles that end by z are passed; the first other tile, or the bed's end, says what is at z.
use Rattle.std.specs.Prelude.{length}
use Rattle.combine_walk.specs.Walk.{Stands}
use Rattle.combine_walk.proofs.next_piece.Given as goal

abbrev pub invariant-loop-at : goal.invariant-loop-at
invariant-loop-at l = Stands l.end (length l.words) l.words l.z l.at
