-- The shift gives the power of four.
use Rattle.tile.proofs.Bits.{shift_area}
use Rattle.tile.proofs.area.Goals as goal

pub returns : goal.returns
returns c = shift_area _ c.requires
