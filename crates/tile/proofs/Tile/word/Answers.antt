-- The three fields do not overlap, so that joining them is adding them.
use Rattle.tile.proofs.Bits.{pack_word}
use Rattle.tile.proofs.Tile.word.Goals as goal

pub returns : goal.returns
returns c = pack_word _ _ _ c.requires.0 c.requires.1 c.requires.2
