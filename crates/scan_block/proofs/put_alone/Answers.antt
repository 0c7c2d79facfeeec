-- The word is stored.
use Rattle.scan_block.proofs.Quads.{alone_store}
use Rattle.std.proofs.Common.{arith}
use Rattle.scan_block.proofs.put_alone.Goals as goal

pub returns-clause-put : goal.returns-clause-put
returns-clause-put c =
    let pre = c.requires in
    alone_store _ _ _ _ _ pre.fits _ (omega arith) c.if-front-back.false pre.z_bound.0 pre.z_bound.1 c.word.ensures
