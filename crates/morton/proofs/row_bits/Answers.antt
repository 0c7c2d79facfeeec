-- `row_bits` meets its contract: the mask keeps the places of the row.
use Rattle.morton.proofs.SpreadLaws.{row_bits}
use Rattle.morton.proofs.row_bits.Goals as goal

pub returns : goal.returns
returns c = row_bits c.args.z
