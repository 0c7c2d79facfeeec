-- The loop keeps that the row has every yes of the other in the columns ahead.
use Rattle.table.specs.Table.{row_of}
use Rattle.table.proofs.LoadLaws.{Every}
use Rattle.table.proofs.Table.has_every.Given as goal

abbrev pub invariant-loop-pixel : goal.invariant-loop-pixel
invariant-loop-pixel l = Every l.self.bytes.now (row_of l.fn.class) (row_of l.fn.other) l.pixel-index
