-- A tile is a square of pixels.
use lib.ListN.{length}
use Rattle.decode.proofs.FilledLaws.{measured, measured_fits, measured_tile}
use Rattle.decode.proofs.paint.Goals as goal

pub returns : goal.returns
returns c =
    let p = c.requires in
    measured_tile p.1 (measured p.0 p.1 c.side-width.ensures c.column_of-column.ensures c.row_of-row.ensures c.side-side.ensures) c.square.ensures

pub square-requires : goal.square-requires
square-requires c =
    let p = c.requires in
    let m = measured p.0 p.1 c.side-width.ensures c.column_of-column.ensures c.row_of-row.ensures c.side-side.ensures in
    measured_fits p.1 m (length c.args.raster.now) p.0 p.2
