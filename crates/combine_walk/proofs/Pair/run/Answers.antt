-- Stretches of one account join, until another account or the bed's end.
use Rattle.combine_walk.proofs.Walked.{step_more, run_other, run_all}
use Rattle.combine_walk.proofs.Pair.run.Goals as goal

pub loop-place-preserved : goal.loop-place-preserved
loop-place-preserved g c = step_more c.loop-place.invariant c.step-more.ensures c.if-more-step.false

pub returns-then-more-step : goal.returns-then-more-step
returns-then-more-step g c = run_other c.loop-place.invariant c.step-more.ensures c.if-more-step.true

pub returns : goal.returns
returns g c = run_all c.loop-place.invariant c.loop-place-test.false

pub step-more-requires : goal.step-more-requires
step-more-requires g c = (c.loop-place-test.true, c.loop-place.invariant.both)
