-- 1 and 31, then the size.
use Rattle.std.proofs.Common.{rules, sym, ◌∙◌, arith}
use Rattle.basics.proofs.Tests.{test_leb}
use Rattle.refusal.proofs.CheckLaws.{must_on, must_off}
use Rattle.refusal.proofs.RefusedLaws.{else_passed, else_refused}
use Rattle.points.specs.Points.{around_asked}
use Rattle.points.proofs.around_asked.Goals as goal

pub returns-in_err-point_asked : goal.returns-in_err-point_asked
unfolding around_asked
returns-in_err-point_asked c = search (rules, else_refused)

pub returns-then-order-size : goal.returns-then-order-size
unfolding around_asked
returns-then-order-size c =
    let a = c.args in
    sym (else_passed _ c.in_ok-point_asked.ensures ∙ must_off _ _ (test_leb a.size a.order) (λ l. omega (arith, c.if-order-size.true)))

pub returns : goal.returns
unfolding around_asked
returns c =
    let a = c.args in
    sym (else_passed _ c.in_ok-point_asked.ensures ∙ must_on _ _ (test_leb a.size a.order) c.if-order-size.false)
