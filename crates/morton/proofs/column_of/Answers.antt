-- `column_of` meets its contract: the mask keeps the even places, and the four steps move them together.
use Rattle.morton.proofs.Masks.{gathers_column}
use Rattle.morton.proofs.column_of.Goals as goal

pub returns : goal.returns
returns c = gathers_column c.args.z
