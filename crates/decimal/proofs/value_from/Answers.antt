-- The loop keeps that the digits from the next one on, written behind v, make the number.
use Rattle.std.proofs.Common.{◌≡◌, ◌-◌, refl, sym, ◌∙◌, arith, length}
use Rattle.decimal.proofs.ValueLaws.{value_next, value_end, next_digit, digit_low}
use Rattle.decimal.proofs.value_from.Goals as goal

pub loop-byte-init : goal.loop-byte-init
loop-byte-init c =
    let bs = c.args.bytes.now in
    let e : length bs - 0 ≡ length bs = omega arith in
    record { same = refl; digits = c.requires.0; room = rw e c.requires.1 }

pub loop-byte-preserved : goal.loop-byte-preserved
loop-byte-preserved c =
    let bs = c.args.bytes.now in
    let l = c.loop-byte in
    let n = next_digit bs l.byte-index l.v c.from.result (omega arith) l.invariant.digits c.from.ensures in
    record { same = l.invariant.same ∙ (value_next bs l.byte-index (omega arith) l.v ∙ rw (sym c.from.ensures) refl); digits = n.rest; room = omega (arith, n.room, l.invariant.room) }

pub returns : goal.returns
returns c = sym (c.loop-byte.invariant.same ∙ value_end c.args.bytes.now c.loop-byte.byte-index c.loop-byte.v (omega arith))

pub overflow_mul-v : goal.overflow_mul-v
overflow_mul-v c =
    let l = c.loop-byte in
    omega (arith, (next_digit c.args.bytes.now l.byte-index l.v _ (omega arith) l.invariant.digits refl).small, l.invariant.room)

pub overflow_sub-byte : goal.overflow_sub-byte
overflow_sub-byte c =
    let l = c.loop-byte in
    omega (arith, digit_low _ (next_digit c.args.bytes.now l.byte-index l.v _ (omega arith) l.invariant.digits refl).digit)

pub overflow_add-v : goal.overflow_add-v
overflow_add-v c =
    let l = c.loop-byte in
    omega (arith, (next_digit c.args.bytes.now l.byte-index l.v c.from.result (omega arith) l.invariant.digits c.from.ensures).small, l.invariant.room)
