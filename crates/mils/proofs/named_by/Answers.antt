-- The whole mils, and the decimals written behind them.
use native.Mathlib.Omega.{arith}
use mathlib.Core.Path.{sym}
use Rattle.mils.proofs.FormLaws.{formed, whole_length, whole_fits, behind_fits, behind_digits, named_read}
use Rattle.mils.proofs.named_by.Goals as goal

pub returns : goal.returns
returns c =
    let s = c in
    let text = s.args.text.now in
    named_read text (formed text s.requires) c.value_from-whole.ensures c.value_from.ensures

pub value_from-whole-requires : goal.value_from-whole-requires
value_from-whole-requires c =
    let text = c.args.text.now in
    let f = formed text c.requires in
    (f.whole, omega (arith, whole_fits text f))

pub value_from-requires : goal.value_from-requires
value_from-requires c =
    let s = c in
    let text = s.args.text.now in
    let f = formed text s.requires in
    (behind_digits text f c.value_from-whole.ensures, behind_fits text f c.value_from-whole.ensures)

pub overflow_sub-at : goal.overflow_sub-at
overflow_sub-at c = omega (arith, (formed c.args.text.now c.requires).short)

pub slice_bounds-value_from-end : goal.slice_bounds-value_from-end
slice_bounds-value_from-end c =
    let text = c.args.text.now in
    sym (whole_length text (formed text c.requires).short)

pub slice_bounds-value_from-count : goal.slice_bounds-value_from-count
slice_bounds-value_from-count c = omega (arith, (formed c.args.text.now c.requires).short)

pub slice_bounds-value_from-start : goal.slice_bounds-value_from-start
slice_bounds-value_from-start c = omega (arith, (formed c.args.text.now c.requires).short)
