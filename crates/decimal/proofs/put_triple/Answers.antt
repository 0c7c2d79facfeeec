-- Each number is put behind the one before.
use Rattle.std.proofs.Common.{arith}
use Rattle.text.proofs.PutAtLaws.{puts_then}
use Rattle.decimal.specs.Decimal.{digits_most}
use Rattle.decimal.proofs.DecimalLaws.{digits_by_most}
use Rattle.decimal.proofs.put_triple.Goals as goal

pub returns : goal.returns
returns c = puts_then c.put_number.ensures (puts_then c.put_field.ensures (puts_then c.put_field-2.ensures c.put.ensures))

pub put_field-requires : goal.put_field-requires
put_field-requires c = omega (arith, c.put_number.ensures.put.stop, digits_by_most digits_most c.args.a)

pub put_field-requires-2 : goal.put_field-requires-2
put_field-requires-2 c =
    let a = c.args in
    omega (arith, c.put_number.ensures.put.stop, c.put_field.ensures.put.stop, digits_by_most digits_most a.a, digits_by_most digits_most a.b)

pub put-requires : goal.put-requires
put-requires c =
    let a = c.args in
    omega (
      arith,
      c.put_number.ensures.put.stop,
      c.put_field.ensures.put.stop,
      c.put_field-2.ensures.put.stop,
      digits_by_most digits_most a.a,
      digits_by_most digits_most a.b,
      digits_by_most digits_most a.c,
    )
