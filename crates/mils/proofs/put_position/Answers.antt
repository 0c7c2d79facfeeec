-- Digits, point, two digits, one behind the other.
use Rattle.std.proofs.Common.{sym, arith, ◌/◌, rules}
use Rattle.decimal.specs.Decimal.{digits_most}
use Rattle.decimal.proofs.DecimalLaws.{digits_by_most}
use Rattle.mils.proofs.CallLaws.{position_put}
use Rattle.mils.proofs.put_position.Goals as goal

pub returns : goal.returns
returns c =
    let p = position_put c.args.h c.digit.ensures c.digit-2.ensures c.put_number.ensures c.put.ensures c.put-2.ensures c.put-3.ensures in
    let r = c.new-writer.ensures in
    let q = rw (r.front, r.unchanged, sym c.count.ensures) at p.put in
    search rules

pub put-requires : goal.put-requires
put-requires c = omega (arith, c.new-writer.ensures.front, c.put_number.ensures.put.stop, digits_by_most digits_most (c.args.h / 100))

pub put-requires-2 : goal.put-requires-2
put-requires-2 c =
    omega (arith, c.new-writer.ensures.front, c.put_number.ensures.put.stop, c.put.ensures.put.stop, digits_by_most digits_most (c.args.h / 100))

pub put-requires-3 : goal.put-requires-3
put-requires-3 c =
    omega (
      arith,
      c.new-writer.ensures.front,
      c.put_number.ensures.put.stop,
      c.put.ensures.put.stop,
      c.put-2.ensures.put.stop,
      digits_by_most digits_most (c.args.h / 100),
    )
