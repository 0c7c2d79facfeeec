-- Digits, point, two digits.
use Prim.Native.Nat.{◌/◌}
use native.Mathlib.Omega.{arith}
use Rattle.decimal.specs.Decimal.{digits_most}
use Rattle.decimal.proofs.DecimalLaws.{digits_by_most}
use Rattle.mils.proofs.TextLaws.{text_length}
use Rattle.mils.proofs.text_length.Goals as goal

pub returns : goal.returns
returns c = omega (arith, c.places.ensures, text_length c.args.h)

pub overflow_add-result : goal.overflow_add-result
overflow_add-result c = omega (arith, c.places.ensures, digits_by_most digits_most (c.args.h / 100))
