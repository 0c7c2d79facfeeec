-- Numbers that are not the same differ in a bit.
use Rattle.quadtree.proofs.HighestBit.{xor_some}
use Rattle.lookup.proofs.StretchLaws.{log_without}
use Rattle.lookup.proofs.size_without.Goals as goal

pub returns : goal.returns
returns c =
    let l = c.ilog2.ensures in
    log_without c.args.z c.args.y _ c.requires c.ranges.z.fits c.ranges.y.fits l.power_le l.next_power_gt

pub ilog2-requires : goal.ilog2-requires
ilog2-requires c = xor_some c.args.z c.args.y c.requires
