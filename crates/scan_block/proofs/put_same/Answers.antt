-- A tile of size 1 is pushed, or there is no slot for it.
use Rattle.scan_block.proofs.Quads.{level_some}
use Rattle.scan_block.proofs.Advance.{advance_put}
use Rattle.std.proofs.Common.{◌+◌, arith}
use Rattle.scan_block.proofs.put_same.Goals as goal

pub returns-in-Ok-clause-put : goal.returns-in-Ok-clause-put
returns-in-Ok-clause-put c =
    let a = c.args in
    let pre = c.requires in
    advance_put 1 a.z (a.z + 4) (omega arith) pre.z_bound.1 _ _ _ _ _ _ pre.account_nonzero.0 pre.fits c.push.auto.slots c.in-Ok.ensures

pub returns-in-Err-clause-put : goal.returns-in-Err-clause-put
returns-in-Err-clause-put c =
    let a = c.args in
    let pre = c.requires in
    advance_put 1 a.z (a.z + 4) (omega arith) pre.z_bound.1 _ _ _ _ _ _ pre.account_nonzero.0 pre.fits c.push.auto.slots c.in-Err.ensures

pub push-requires-clause-size_le_levels : goal.push-requires-clause-size_le_levels
push-requires-clause-size_le_levels c = (level_some _ _ c.requires.z_bound.1 c.levels_of.ensures, c.levels_of.ensures)
