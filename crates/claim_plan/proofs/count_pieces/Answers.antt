-- Three tiles for each level, and the inner block's own.
use native.Mathlib.Omega.{arith}
use Rattle.claim_plan.proofs.Counts.{inner_bit}
use Rattle.claim_plan.proofs.count_pieces.Goals as goal

pub returns : goal.returns
returns c = omega (arith, c.from.ensures, inner_bit c.args.account)
