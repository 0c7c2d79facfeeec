-- Column and row by all bits are those of the order.
use Rattle.std.proofs.Common.{rules}
use Rattle.refusal.proofs.RefusedLaws.{unless_refused}
use Rattle.points.specs.Points.{point_of}
use Rattle.points.proofs.PointsLaws.{point_of_found}
use Rattle.points.proofs.point_of.Goals as goal

pub returns-in_err-number_asked : goal.returns-in_err-number_asked
unfolding point_of
returns-in_err-number_asked c = search (rules, unless_refused)

pub returns : goal.returns
returns c =
    let a = c.args in
    point_of_found a.order a.z _ _ c.in_ok-number_asked.ensures c.column_of.ensures c.row_of.ensures
