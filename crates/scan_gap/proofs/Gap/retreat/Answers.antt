-- One piece moved up: `retreated`.
use Rattle.scan_gap.proofs.Shifts.{retreated}
use mathlib.Core.Path.{refl}
use Rattle.scan_gap.proofs.Gap.retreat.Goals as goal

pub returns : goal.returns
returns c =
    let p = c.requires in
    let m = c.move_up in
    retreated _ _ _ _ _ p.fits _ _ refl p.front_nonzero.0 p.front_nonzero.1 c.cut-at.ensures m.auto.s m.ensures
