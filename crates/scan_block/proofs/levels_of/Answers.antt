-- Half the trailing zeros: `levels_half`.
use Rattle.quadtree.proofs.TrailingZeros.{levels_half}
use Rattle.scan_block.proofs.levels_of.Goals as goal

pub returns : goal.returns
returns c = levels_half _ c.requires.0 c.requires.1
