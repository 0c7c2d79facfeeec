-- The loop keeps `Stretch`; at its end the corners of all words tell that each is on the bed.
use native.Mathlib.Omega.{arith}
use borrow.Author.Tests.{leb-false}
use Rattle.basics.proofs.Tests.{neither}
use Rattle.list_flat.proofs.StretchLaws.{stretch_start, stretch_on, stretch_clear}
use Rattle.list_flat.proofs.faults.Goals as goal

pub returns : goal.returns
returns c = λ e j h l.
    let n = neither _ _ e in
    let far = n.1 in
    stretch_clear c.args.slots.now c.loop-i.invariant c.args.order n.0 (omega (arith, leb-false, c.area.ensures, c.corner.ensures)) j h (omega arith)

pub loop-i-init : goal.loop-i-init
loop-i-init c = stretch_start _ _ _ _

pub loop-i-preserved : goal.loop-i-preserved
loop-i-preserved c = stretch_on c.args.slots.now c.loop-i.invariant c.fault-bad.result c.fault-bad.ensures
