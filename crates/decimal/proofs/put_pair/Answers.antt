-- Each word and number is put behind those before.
use Rattle.std.proofs.Common.{arith, length-append}
use Rattle.decimal.specs.Decimal.{digits_most, digits}
use Rattle.decimal.proofs.DecimalLaws.{digits_by_most}
use Rattle.decimal.proofs.LinesLaws.{pair_put}
use Rattle.decimal.proofs.put_pair.Goals as goal

pub returns : goal.returns
returns c =
    let a = c.args in
    pair_put a.first.now a.m a.second.now a.n c.put_field.ensures c.put_field-2.ensures c.put.ensures

pub put_field-requires-2 : goal.put_field-requires-2
put_field-requires-2 c =
    let a = c.args in
    omega (arith, c.put_field.ensures.put.stop, length-append a.first.now (digits a.m), digits_by_most digits_most a.m)

pub put-requires : goal.put-requires
put-requires c =
    let a = c.args in
    omega (
      arith,
      c.put_field.ensures.put.stop,
      c.put_field-2.ensures.put.stop,
      length-append a.first.now (digits a.m),
      digits_by_most digits_most a.m,
      length-append a.second.now (digits a.n),
      digits_by_most digits_most a.n,
    )
