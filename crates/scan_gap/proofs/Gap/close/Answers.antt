-- The back part moved down, and the rest cleared: `closed`.
use Rattle.scan_gap.proofs.Parts.{closed}
use mathlib.Core.Path.{refl}
use native.Mathlib.Omega.{arith}
use Rattle.scan_gap.proofs.Gap.close.Goals as goal

pub returns : goal.returns
returns c =
    let a = c.args in
    let move_down = c.move_down in
    closed a.slots.now _ _ a.self.front a.self.back _ (omega arith) (omega arith) refl move_down.ensures c.clear_from.ensures
    move_down.auto.s
