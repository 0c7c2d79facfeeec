-- The rows in turn: the rectangle of y rows is set.
use mathlib.Core.Path.{◌≡◌}
use native.Mathlib.Omega.{arith}
use lib.ListN.{length, replicate}
use Rattle.std.proofs.Common.{rules, ◌+◌, ◌*◌}
use Rattle.decode.proofs.FilledLaws.{row_fits, span_filled, rectangle_more}
use Rattle.decode.proofs.square.Goals as goal

pub loop-y-preserved : goal.loop-y-preserved
loop-y-preserved c =
    let a = c.args in
    let l = c.loop-y in
    let f = row_fits a.width (length a.raster.now) a.column a.row a.side l.y (omega arith) (omega arith) (omega arith) (omega arith) (omega arith) in
    let e : c.fill.new.self ≡ replicate a.side a.account = search rules in
    rectangle_more (omega arith) l.invariant (rw e (span_filled l.raster ((a.row + l.y) * a.width + a.column) a.side _ a.account (omega (arith, f.within, l.invariant.long)) (omega arith)))
