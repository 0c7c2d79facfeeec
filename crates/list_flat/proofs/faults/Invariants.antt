-- The loop keeps `Stretch`; at its end the corners of all words tell that each is on the bed.
use Rattle.list_flat.proofs.StretchLaws.{Stretch}
use Rattle.list_flat.proofs.faults.Given as goal

abbrev pub invariant-loop-i : goal.invariant-loop-i
invariant-loop-i l = Stretch l.slots l.from l.bad l.all l.i
