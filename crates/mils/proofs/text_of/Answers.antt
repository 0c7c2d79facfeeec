-- 1, 31, 26, and then the text.
use Rattle.std.proofs.Common.{rules, sym, refl, arith}
use Rattle.refusal.proofs.RefusedLaws.{else_refused, unless_refused}
use Rattle.mils.specs.Calls.{text_of, text_asked}
use Rattle.mils.proofs.MilsLaws.{smallest_most}
use Rattle.mils.proofs.CallLaws.{pixel_asked_small, text_of_few, text_of_done}
use Rattle.mils.proofs.text_of.Goals as goal

pub returns-in_err-pixel_asked : goal.returns-in_err-pixel_asked
unfolding text_of text_asked
returns-in_err-pixel_asked c = search (rules, unless_refused, else_refused)

pub returns-then-out-text_length : goal.returns-then-out-text_length
returns-then-out-text_length c =
    let a = c.args in
    text_of_few a.order a.pixel a.out.now c.in_ok-pixel_asked.ensures refl c.smallest_in-h.ensures c.text_length.ensures (omega (arith, c.if-out-text_length.true))

pub returns : goal.returns
returns c =
    let a = c.args in
    text_of_done a.order a.pixel a.out.now c.in_ok-pixel_asked.ensures refl c.smallest_in-h.ensures c.text_length.ensures (omega (arith, c.if-out-text_length.false))
    c.put_position.ensures

pub smallest_in-h-requires : goal.smallest_in-h-requires
smallest_in-h-requires c = pixel_asked_small c.args.order c.args.pixel (sym c.in_ok-pixel_asked.ensures)

pub text_length-requires : goal.text_length-requires
text_length-requires c =
    let a = c.args in
    omega (arith, c.smallest_in-h.ensures, smallest_most a.pixel (pixel_asked_small a.order a.pixel (sym c.in_ok-pixel_asked.ensures)))
