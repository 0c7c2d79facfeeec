-- What can start, or what has room, whichever is smaller: `greedy_least`.
use native.Mathlib.Omega.{arith}
use Rattle.list_cut.proofs.Sizes.{greedy_least}
use Rattle.list_cut.proofs.largest.Goals as goal

pub returns : goal.returns
returns c = greedy_least _ _ c.requires.0 c.requires.1 _ (omega (arith, c.min.ensures))
