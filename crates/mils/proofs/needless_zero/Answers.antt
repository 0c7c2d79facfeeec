-- The length, and then the byte.
use native.Mathlib.Omega.{arith}
use borrow.Author.Tests.{lt-ltb, le-ltb}
use Rattle.mils.specs.Position.{shortest, needless_zero}
use Rattle.mils.proofs.needless_zero.Goals as goal

pub returns-then-length-le-SHORTEST : goal.returns-then-length-le-SHORTEST
unfolding needless_zero
returns-then-length-le-SHORTEST c = simp (le-ltb shortest c.args.length (omega arith))

pub returns : goal.returns
unfolding needless_zero
returns c = simp (lt-ltb shortest c.args.length (omega arith))
