-- The words are written in turn: what is left to write makes the slots that are promised.
use native.Mathlib.Omega.{arith}
use Rattle.list_equal.proofs.Turns.{along_below, write_more, write_all}
use Rattle.list_equal.proofs.write_equal.Goals as goal

pub returns : goal.returns
returns c = write_all c.loop-slot.invariant (omega arith)

pub loop-slot-preserved : goal.loop-slot-preserved
loop-slot-preserved c = rw c.word.ensures (write_more c.loop-slot.invariant (omega arith) _ c.area-area.ensures)

pub word-requires : goal.word-requires
word-requires c =
    let a = c.loop-slot.invariant.along in
    (omega (arith, rw c.loop-slot.auto.slots at (along_below a (omega arith)), c.requires), omega (arith, a.size, c.requires), omega (arith, a.account, c.requires))
