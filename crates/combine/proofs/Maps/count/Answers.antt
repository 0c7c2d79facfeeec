-- Run by run: what is left of the linear quadtree makes the count.
use native.Mathlib.Omega.{arith}
use Rattle.list_check.proofs.TreeLaws.{tree_order, tree_valid}
use Rattle.combine_walk.proofs.Walked.{step_begin, run_begin, run_next}
use Rattle.list_cut.proofs.Passes.{run_room, counted_start, counted_all, counted_room, counted_run}
use Rattle.combine.proofs.CombineLaws.{maps_start}
use Rattle.combine.proofs.Maps.count.Goals as goal

pub loop-next-init : goal.loop-next-init
loop-next-init g c = let e = c.step.ensures.from in (step_begin c.step.ensures, rw e (counted_start _ _))

pub loop-next-preserved : goal.loop-next-preserved
loop-next-preserved g c =
    let few = tree_order _ _ c.args.self.first.passes in
    let run = c.run-run.ensures in
    let inv = rw c.in-Some.is at c.loop-next.invariant in
    (run_next run, rw (run_begin run, c.count_cut-count.ensures) (counted_run few c.pair-pair.ensures.0 run.run inv.1))

pub returns : goal.returns
returns g c =
    let e = c.pair-pair.ensures in
    let inv = rw c.in_default.is at c.loop-next.invariant in
    rw (← e.1, ← e.2) (counted_all inv.1 (omega (arith, e.0)))

pub step-requires : goal.step-requires
step-requires g c =
    let e = c.pair-pair.ensures in
    let m = c.args.self in
    maps_start _ e.0 (rw e.1 (tree_valid _ _ m.first.passes)) (rw (e.2, m.orders) (tree_valid _ _ m.second.passes))

pub count_cut-count-requires : goal.count_cut-count-requires
count_cut-count-requires g c =
    let run = c.run-run.ensures.run in
    (omega (arith, run.some), run_room (tree_order _ _ c.args.self.first.passes) c.pair-pair.ensures.0 run)

pub overflow_add-count : goal.overflow_add-count
overflow_add-count g c =
    let few = tree_order _ _ c.args.self.first.passes in
    let inv = rw c.in-Some.is at c.loop-next.invariant in
    omega (arith, c.count_cut-count.ensures, counted_room few c.pair-pair.ensures.0 c.run-run.ensures.run inv.1)
