-- The tests of an entry are the definition's.
use native.Mathlib.Omega.{arith}
use Rattle.mapfile_entries.proofs.EntriesInTurn.{right_some, right_none}
use Rattle.mapfile_entries.proofs.Tiles.right.Goals as goal

pub returns-then-pixels-ne0 : goal.returns-then-pixels-ne0
returns-then-pixels-ne0 c = right_some _ c.args.entry _ c.covered-pixels.ensures (omega arith)

pub returns-else-pixels-ne0 : goal.returns-else-pixels-ne0
returns-else-pixels-ne0 c = right_none _ c.args.entry _ c.covered-pixels.ensures c.if-pixels-ne0.false
