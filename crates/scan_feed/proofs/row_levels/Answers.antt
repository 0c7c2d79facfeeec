-- The smaller count of trailing zeros: `levels_sides`.
use Rattle.scan_feed.proofs.SideLevels.{levels_sides}
use Rattle.scan_feed.proofs.row_levels.Goals as goal

pub returns : goal.returns
returns c = rw c.min.ensures (levels_sides c.args.column c.args.row c.requires.0 c.requires.1)
