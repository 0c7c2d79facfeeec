-- The gap lies behind all the words, and the pixel is pushed there.
use Rattle.scan_gap.proofs.Pixel.{placed_pushed}
use Rattle.scan_gap.proofs.Shifts.{stayed}
use Rattle.scan_gap.specs.Gap.{outcome}
use mathlib.Core.Path.{◌∙◌, refl, sym}
use native.Mathlib.Omega.{arith}
use lib.ListN.{length}
use Rattle.scan_gap.proofs.Gap.append.Goals as goal

pub returns : goal.returns
returns c =
    let s = c in
    let p = c.push in
    let a = s.args in
    let g = stayed a.slots.now a.self.front (length a.slots.now) a.z (s.requires.front_in_bounds.0, omega arith) s.requires.front_in_bounds.1 (λ h. absurd (omega arith))
    in
    let pushed = rw c.one_pixel.ensures at p.ensures in
    record {
      placed = placed_pushed _ _ _ _ _ _ _ _ (outcome p.result) s.requires.z_bound.1 refl p.auto.slots g pushed;
      back_value = (
        pushed.there ∙ sym p.auto.slots,
        pushed.low s.requires.front_in_bounds.1,
      );
    }
