-- The size is what is left of the word's bits above the account under a mask of four ones.
use lib.Bits.{and_mask}
use Rattle.tile.specs.Tile.{tile_of}
use Rattle.tile.proofs.size.Goals as goal

pub returns : goal.returns
unfolding tile_of
returns c = and_mask _ 4
