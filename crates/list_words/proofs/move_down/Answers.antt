-- What `copy_within` leaves, in slices: `moved_by`.
use mathlib.Core.Path.{◌∙◌}
use Prim.Native.Nat.{◌+◌}
use native.Mathlib.Omega.{arith}
use Rattle.list_words.proofs.Moves.{moved_by}
use Rattle.list_words.proofs.move_down.Goals as goal

pub returns : goal.returns
returns c = let a = c.args in c.copy_within.ensures.after ∙ moved_by a.s.now (a.at + a.k) a.n a.at _ _ (omega arith) (omega arith) (omega arith)
