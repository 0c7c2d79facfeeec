-- Run by run: what is left of the linear quadtree makes the slots that are promised.
use native.Mathlib.Omega.{arith}
use Rattle.list_check.proofs.TreeLaws.{tree_order, tree_valid}
use Rattle.combine_walk.proofs.Walked.{step_begin, run_begin, run_next}
use Rattle.list_cut.proofs.Passes.{run_room, written_start, written_all, written_room, written_run}
use Rattle.combine.proofs.CombineLaws.{maps_start}
use Rattle.combine.proofs.Maps.write.Goals as goal

pub loop-next-init : goal.loop-next-init
loop-next-init g c = let e = c.step.ensures.from in (step_begin c.step.ensures, rw e (written_start _ _ _))

pub loop-next-preserved : goal.loop-next-preserved
loop-next-preserved g c =
    let few = tree_order _ _ c.args.self.first.passes in
    let run = c.run-run.ensures in
    let put = c.put_cut-at.ensures in
    let inv = rw c.in-Some.is at c.loop-next.invariant in
    (run_next run, rw (run_begin run, put.0, put.1) (written_run few c.pair-pair.ensures.0 run.run inv.1))

pub returns : goal.returns
returns g c =
    let e = c.pair-pair.ensures in
    let inv = rw c.in_default.is at c.loop-next.invariant in
    rw (← e.1, ← e.2) (written_all inv.1 (omega (arith, e.0)))

pub step-requires : goal.step-requires
step-requires g c =
    let e = c.pair-pair.ensures in
    let m = c.args.self in
    maps_start _ e.0 (rw e.1 (tree_valid _ _ m.first.passes)) (rw (e.2, m.orders) (tree_valid _ _ m.second.passes))

pub put_cut-at-requires : goal.put_cut-at-requires
put_cut-at-requires g c =
    let few = tree_order _ _ c.args.self.first.passes in
    let e = c.pair-pair.ensures in
    let run = c.run-run.ensures in
    let inv = rw c.in-Some.is at c.loop-next.invariant in (
      omega (arith, run.run.some),
      run_room few e.0 run.run,
      run.low,
      written_room few e.0 run.run inv.1 (rw (e.1, e.2) c.requires),
    )
