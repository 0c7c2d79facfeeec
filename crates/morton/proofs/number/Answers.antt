-- `number` meets its contract: column and row, spaced, share no bit.
use Rattle.morton.proofs.Masks.{join_morton}
use Rattle.morton.proofs.number.Goals as goal

pub returns : goal.returns
returns c = rw (c.spread.ensures, c.spread-2.ensures) (join_morton _ _)
