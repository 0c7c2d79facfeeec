-- The rows in turn: the rectangle of y rows is set.
use Rattle.decode.specs.Filled.{RectangleFilled}
use Rattle.decode.proofs.square.Given as goal

abbrev pub invariant-loop-y : goal.invariant-loop-y
invariant-loop-y l = RectangleFilled l.width l.initial.raster l.column l.row l.side l.y l.account l.raster
