-- Block by block: the rest of the stretch makes the count.
use Prim.Native.Nat.{◌-◌}
use Rattle.list_cut.proofs.Turns.{Counting}
use Rattle.list_cut.proofs.count_cut.Given as goal

abbrev pub invariant-loop-corner : goal.invariant-loop-corner
invariant-loop-corner l = Counting l.account l.stretch.start l.stretch.end l.corner l.count

abbrev pub decreases-loop-corner : goal.decreases-loop-corner
decreases-loop-corner l = l.stretch.end - l.corner
