-- Past 32 the size is that of a block of the bed.
use Rattle.std.proofs.Common.{rules, sym, arith}
use Rattle.refusal.proofs.RefusedLaws.{unless_refused}
use Rattle.points.specs.Points.{around_of}
use Rattle.points.proofs.PointsLaws.{around_asked_passed, around_of_found}
use Rattle.points.proofs.block_around.Goals as goal

pub returns-in_err-around_asked : goal.returns-in_err-around_asked
unfolding around_of
returns-in_err-around_asked c = search (rules, unless_refused)

pub returns : goal.returns
returns c =
    let a = c.args in
    around_of_found a.order a.point.column a.point.row a.size _ _ c.in_ok-around_asked.ensures c.number.ensures c.corner_at.ensures

pub corner_at-requires : goal.corner_at-requires
corner_at-requires c =
    let a = c.args in
    let p = around_asked_passed a.order a.point.column a.point.row a.size (sym c.in_ok-around_asked.ensures) in
    omega (arith, p.0.order, p.1)
