-- The number by all bits is that of the order.
use Rattle.std.proofs.Common.{rules}
use Rattle.refusal.proofs.RefusedLaws.{unless_refused}
use Rattle.points.specs.Points.{number_of}
use Rattle.points.proofs.PointsLaws.{number_of_found}
use Rattle.points.proofs.number_at.Goals as goal

pub returns-in_err-point_asked : goal.returns-in_err-point_asked
unfolding number_of
returns-in_err-point_asked c = search (rules, unless_refused)

pub returns : goal.returns
returns c =
    let a = c.args in
    number_of_found a.order a.point.column a.point.row _ c.in_ok-point_asked.ensures c.number.ensures
