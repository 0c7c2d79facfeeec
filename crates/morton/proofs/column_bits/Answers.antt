-- `column_bits` meets its contract: the mask keeps the places of the column.
use Rattle.morton.proofs.SpreadLaws.{column_bits}
use Rattle.morton.proofs.column_bits.Goals as goal

pub returns : goal.returns
returns c = column_bits c.args.z
