-- The loop keeps that the tile ahead of `low` starts below z; the last step holds the place.
use Rattle.list_search.proofs.CutLaws.{cut_wider}
use mathlib.Core.Path.{◌≡◌}
use Prim.Native.Nat.{◌+◌, ◌-◌}
use native.Mathlib.Omega.{arith}
use Rattle.list_search.proofs.reach.Goals as goal

pub loop-low-init : goal.loop-low-init
loop-low-init c = (omega arith, omega arith, λ h. absurd (omega arith))

pub returns-then-z-corner : goal.returns-then-z-corner
returns-then-z-corner c =
    let l = c.loop-low in
    cut_wider c.cut.ensures (omega arith) (omega arith) l.invariant.2 (λ h. omega (arith, c.corner.ensures))

pub loop-low-preserved : goal.loop-low-preserved
loop-low-preserved c =
    let l = c.loop-low in
    let from = c.args.from in
    let e : l.low + (l.low - from) + 1 - 1 ≡ l.low + (l.low - from) = omega arith in
    (omega arith, omega arith, λ h. rw e (omega (arith, c.corner.ensures)))

pub returns : goal.returns
returns c = cut_wider c.cut-2.ensures (omega arith) (omega arith) c.loop-low.invariant.2 (λ h. absurd (omega arith))
