-- 1, which bounds the order, then 32.
use Rattle.std.proofs.Common.{rules, sym, ◌∙◌}
use Rattle.refusal.proofs.RefusedLaws.{else_passed, else_refused}
use Rattle.checks.proofs.AskedLaws.{order_passed}
use Rattle.points.specs.Points.{number_asked}
use Rattle.points.proofs.number_asked.Goals as goal

pub returns-in_err-order : goal.returns-in_err-order
unfolding number_asked
returns-in_err-order c = search (rules, else_refused)

pub block-requires : goal.block-requires
block-requires c = order_passed c.args.order (sym c.in_ok-order.ensures)

pub returns : goal.returns
unfolding number_asked
returns c = c.block.ensures ∙ sym (else_passed _ c.in_ok-order.ensures)
