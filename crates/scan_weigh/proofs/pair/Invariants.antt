-- So far the sum is that of the quads ahead, stretch by stretch.
use Rattle.scan_weigh.specs.Weighed.{quad_from}
use Rattle.scan_stretch.specs.Weight.{total}
use mathlib.Core.Path.{◌≡◌}
use Prim.Native.Nat.{◌+◌, ◌-◌, ◌*◌, ◌≤◌}
use Rattle.scan_weigh.proofs.pair.Given as goal

abbrev pub invariant-loop-j : goal.invariant-loop-j
invariant-loop-j l = (l.j ≤ l.quads) × (l.sum ≡ total (λ i. quad_from l.accounts l.width (l.at + 2 * i)) 0 (l.j - 0))

abbrev pub decreases-loop-j : goal.decreases-loop-j
decreases-loop-j l = l.quads - l.j
