-- The bytes ahead of the loop's are put.
use Rattle.std.proofs.Common.{arith}
use Rattle.text.proofs.PutAtLaws.{puts_next}
use Rattle.text.proofs.Writer.put_all.Goals as goal

pub loop-byte-preserved : goal.loop-byte-preserved
loop-byte-preserved c = puts_next c.args.bytes.now c.loop-byte.byte-index (omega arith) c.loop-byte.invariant c.put.ensures
