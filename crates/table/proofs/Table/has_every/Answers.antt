-- The loop keeps that the row has every yes of the other in the columns ahead.
use Rattle.std.proofs.Common.{arith, sym, ◌∙◌}
use Rattle.table.specs.Table.{row_of}
use Rattle.table.proofs.TableLaws.{pixel_at}
use Rattle.table.proofs.LoadLaws.{every_not, every_all}
use Rattle.table.proofs.Table.has_every.Goals as goal

pub returns : goal.returns
returns c =
    let a = c.args in
    every_all a.self.bytes.now (row_of a.class) (row_of a.other) c.loop-pixel.pixel-index (omega arith) c.loop-pixel.invariant

pub returns-then-not-says : goal.returns-then-not-says
returns-then-not-says c =
    let a = c.args in
    let is = pixel_at c.loop-pixel.pixel-index (omega arith) in
    every_not a.self.bytes.now (row_of a.class) (row_of a.other) c.loop-pixel.pixel-index (omega arith)
    (rw is at (sym c.says.ensures ∙ c.if-says.true)) (rw is at (sym c.says-then-says.ensures ∙ c.if-not-says.true))
