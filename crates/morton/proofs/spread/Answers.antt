-- `spread` meets its contract: the mask keeps the low bits, and the four steps space them.
use Rattle.morton.proofs.Masks.{spreads_morton}
use Rattle.morton.proofs.spread.Goals as goal

pub returns : goal.returns
returns c = spreads_morton c.args.x
