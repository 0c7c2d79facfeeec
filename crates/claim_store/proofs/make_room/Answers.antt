-- The tail moves, or stays.
use mathlib.Core.Path.{◌∙◌, refl}
use Prim.Native.Nat.{◌+◌}
use native.Mathlib.Omega.{arith}
use Rattle.list_words.proofs.Moves.{moved}
use Rattle.claim_store.proofs.Room.{opened}
use Rattle.claim_store.proofs.make_room.Goals as goal

pub returns : goal.returns
returns c =
    let a = c.args in
    opened a.slots.now _ a.lo a.hi a.tiles a.count _ (c.copy_within.ensures.after ∙ moved a.slots.now a.hi a.tiles (a.lo + a.count) _ (omega arith) refl) (omega arith) (omega arith) (omega arith)
