-- 1, 53 for the form, 53 for the bed.
use Rattle.std.proofs.Common.{rules, sym, ap, ◌∙◌, arith}
use Rattle.refusal.proofs.RefusedLaws.{number_some, else_refused, unless_refused}
use Rattle.checks.proofs.AskedLaws.{order_passed, coordinate_passed, coordinate_refused}
use Rattle.mils.specs.Mils.{pixel_at}
use Rattle.mils.specs.Calls.{position_asked, pixel_of}
use Rattle.mils.proofs.CallLaws.{pixel_of_formless, pixel_of_off, pixel_of_on}
use Rattle.mils.proofs.pixel_of.Goals as goal

pub returns-in_err-order : goal.returns-in_err-order
unfolding pixel_of position_asked
returns-in_err-order c = search (rules, unless_refused, else_refused)

pub returns-then-not-well_formed : goal.returns-then-not-well_formed
returns-then-not-well_formed c =
    let a = c.args in
    pixel_of_formless a.order a.text.now (sym c.in_ok-order.ensures) (sym c.well_formed-2.ensures ∙ c.if-not-well_formed.true)

pub returns-in-Ok : goal.returns-in-Ok
returns-in-Ok c =
    let a = c.args in
    pixel_of_on a.order a.text.now (sym c.in_ok-order.ensures) (sym c.well_formed-2.ensures ∙ c.if-not-well_formed.false) _
    (ap pixel_at c.named_by.ensures.0) (coordinate_passed a.order _ (sym c.in-Ok.ensures))

pub returns-in-Err : goal.returns-in-Err
returns-in-Err c =
    let a = c.args in
    let h = number_some c.in-Err.field-0 in
    pixel_of_off a.order a.text.now (sym c.in_ok-order.ensures) (sym c.well_formed-2.ensures ∙ c.if-not-well_formed.false) _
    (ap pixel_at c.named_by.ensures.0) (coordinate_refused a.order _ (λ z. omega (arith, h, c.in-Err.ensures, z)))

pub named_by-requires : goal.named_by-requires
named_by-requires c = sym c.well_formed-2.ensures ∙ c.if-not-well_formed.false

-- at most 9,999,999 times 127
pub overflow_mul-pixel : goal.overflow_mul-pixel
overflow_mul-pixel c = omega (arith, c.named_by.ensures.1)

pub coordinate-requires : goal.coordinate-requires
coordinate-requires c = order_passed c.args.order (sym c.in_ok-order.ensures)
