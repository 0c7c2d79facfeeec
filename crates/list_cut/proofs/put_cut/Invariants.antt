-- Block by block: what is left to write makes the slots that are promised.
use Prim.Native.Nat.{◌-◌}
use Rattle.list_cut.proofs.Turns.{Putting}
use Rattle.list_cut.proofs.put_cut.Given as goal

abbrev pub invariant-loop-corner : goal.invariant-loop-corner
invariant-loop-corner l = Putting l.account l.initial.slots l.at l.stretch.start l.stretch.end l.slots l.corner l.top

abbrev pub decreases-loop-corner : goal.decreases-loop-corner
decreases-loop-corner l = l.stretch.end - l.corner
