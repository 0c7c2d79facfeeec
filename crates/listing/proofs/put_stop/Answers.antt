-- The line has the two numbers.
use Rattle.listing.specs.Listing.{stop_line}
use Rattle.listing.proofs.put_stop.Goals as goal

pub returns : goal.returns
unfolding stop_line
returns c = c.put_pair.ensures
