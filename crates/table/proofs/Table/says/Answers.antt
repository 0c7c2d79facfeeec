-- The byte at the row and the column.
use Rattle.table.specs.Table.{says}
use Rattle.table.proofs.TableLaws.{row_tag, column_tag}
use Rattle.std.proofs.Common.{refl}
use Rattle.table.proofs.Table.says.Goals as goal

pub returns : goal.returns
unfolding says
returns c = rw (row_tag c.args.class, column_tag c.args.pixel) refl
