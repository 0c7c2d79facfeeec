-- 1, which bounds the order, then 31.
use Rattle.std.proofs.Common.{rules, sym, ◌∙◌}
use Rattle.refusal.proofs.RefusedLaws.{else_passed, else_refused}
use Rattle.checks.proofs.AskedLaws.{order_passed}
use Rattle.points.specs.Points.{point_asked}
use Rattle.points.proofs.point_asked.Goals as goal

pub returns-in_err-order : goal.returns-in_err-order
unfolding point_asked
returns-in_err-order c = search (rules, else_refused)

pub point-requires : goal.point-requires
point-requires c = order_passed c.args.order (sym c.in_ok-order.ensures)

pub returns : goal.returns
unfolding point_asked
returns c = c.point.ensures ∙ sym (else_passed _ c.in_ok-order.ensures)
