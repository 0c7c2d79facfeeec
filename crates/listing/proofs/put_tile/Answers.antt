-- The line has the tile's three numbers.
use Rattle.listing.specs.Listing.{tile_line}
use Rattle.listing.proofs.put_tile.Goals as goal

pub returns : goal.returns
unfolding tile_line
returns c = c.put_triple.ensures
