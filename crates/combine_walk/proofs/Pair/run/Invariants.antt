-- Stretches of one account join, until another account or the bed's end.
use Prim.Native.Nat.{◌-◌}
use Rattle.combine_walk.specs.Walk.{StepBy}
use Rattle.combine_walk.proofs.Pair.run.Given as goal

abbrev pub invariant-loop-place : goal.invariant-loop-place
invariant-loop-place g l = StepBy (g.R.Rule.made l.rule) l.self.end l.self.first.now l.self.second.now l.step.from
    (record { from = l.step.from; account = l.step.account; end = l.place })

abbrev pub decreases-loop-place : goal.decreases-loop-place
decreases-loop-place g l = l.self.end - l.place.z
