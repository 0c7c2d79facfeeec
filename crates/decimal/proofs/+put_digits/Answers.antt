-- By the places that are left: no digit, the last one, or the last one behind those of the tenth.
use Rattle.std.proofs.Common.{arith, ◌-◌, ◌/◌}
use Rattle.decimal.proofs.DecimalLaws.{digits_by_most, digits_none, digits_last, digits_more}
use Rattle.decimal.proofs.+put_digits.Goals as goal

pub returns-then-places-eq0 : goal.returns-then-places-eq0
returns-then-places-eq0 t c = digits_none c.args.places c.args.n c.args.writer.now c.if-places-eq0.true

pub returns-then-n-lt10 : goal.returns-then-n-lt10
returns-then-n-lt10 t c = digits_last c.args.places c.args.n c.if-places-eq0.false c.if-n-lt10.true c.digit.ensures c.put.ensures

pub returns : goal.returns
returns t c =
    digits_more c.args.places c.args.n c.if-places-eq0.false {d = c.digit-2.result} c.if-n-lt10.false (omega (arith, c.digit-2.ensures)) c.put_digits.ensures c.put-2.ensures

pub put-requires-2 : goal.put-requires-2
put-requires-2 t c = omega (arith, c.put_digits.ensures.put.stop, digits_by_most (c.args.places - 1) (c.args.n / 10))
