-- One piece moved down: `advanced`.
use Rattle.scan_gap.proofs.Shifts.{advanced}
use mathlib.Core.Path.{refl}
use Rattle.scan_gap.proofs.Gap.advance.Goals as goal

pub returns : goal.returns
returns c =
    let p = c.requires in
    let m = c.move_down in
    advanced _ _ _ _ _ p.fits _ _ refl p.back_in_bounds.0 p.back_in_bounds.1 c.reach-to.ensures m.auto.s m.ensures
