-- The pixel is pushed where the gap lies.
use Rattle.scan_gap.proofs.Pixel.{placed_pushed}
use Rattle.scan_gap.proofs.Shifts.{stayed}
use Rattle.scan_gap.specs.Gap.{outcome}
use mathlib.Core.Path.{refl}
use Rattle.scan_gap.proofs.Gap.put.Goals as goal

pub returns-then-lies : goal.returns-then-lies
returns-then-lies c =
    let there = c.lies.ensures c.if-lies.true in
    placed_pushed _ _ _ _ _ _ _ _ (outcome c.push.result) c.requires.z_bound.1 refl c.push.auto.slots (stayed _ _ _ _ c.requires.fits there.0 there.1) (rw c.one_pixel.ensures at c.push.ensures)

pub returns : goal.returns
returns c = placed_pushed _ _ _ _ _ _ _ c.seek-gap.result (outcome c.push-2.result) c.requires.z_bound.1 c.seek-gap.auto.slots c.push-2.auto.slots c.seek-gap.ensures (rw c.one_pixel-2.ensures at c.push-2.ensures)
