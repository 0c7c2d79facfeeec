-- `row_of` meets its contract: the row is the column of the half.
use mathlib.Core.Path.{◌∙◌, sym}
use Rattle.morton.specs.Morton.{side_bits}
use Rattle.morton.proofs.MortonLaws.{row_column}
use Rattle.morton.proofs.row_of.Goals as goal

pub returns : goal.returns
returns c = c.column_of.ensures ∙ sym (row_column side_bits c.args.z)
