-- The pixel's number times 200,000, divided by 127 and rounded up. On the largest bed no step leaves 32 bits.
use native.Mathlib.Omega.{arith}
use Rattle.mils.proofs.smallest_in.Goals as goal

pub returns : goal.returns
returns c = omega arith

pub overflow_mul-result : goal.overflow_mul-result
overflow_mul-result c = omega (arith, c.requires)

pub overflow_add-result : goal.overflow_add-result
overflow_add-result c = omega (arith, c.requires)
