-- 1, which bounds the order, then 31.
use Rattle.std.proofs.Common.{rules, sym, ◌∙◌}
use Rattle.refusal.proofs.RefusedLaws.{else_passed, else_refused}
use Rattle.checks.proofs.AskedLaws.{order_passed}
use Rattle.mils.specs.Calls.{pixel_asked}
use Rattle.mils.proofs.pixel_asked.Goals as goal

pub returns-in_err-order : goal.returns-in_err-order
unfolding pixel_asked
returns-in_err-order c = search (rules, else_refused)

pub returns : goal.returns
unfolding pixel_asked
returns c = c.coordinate.ensures ∙ sym (else_passed _ c.in_ok-order.ensures)

pub coordinate-requires : goal.coordinate-requires
coordinate-requires c = order_passed c.args.order (sym c.in_ok-order.ensures)
