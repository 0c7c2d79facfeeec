-- So far the sum is that of the quads from the first on.
use Rattle.scan_weigh.specs.Weighed.{quad_from}
use Rattle.scan_stretch.specs.Weight.{total}
use mathlib.Core.Path.{◌≡◌}
use Prim.Native.Nat.{◌+◌, ◌-◌, ◌*◌}
use Rattle.scan_weigh.proofs.few.Given as goal

abbrev pub invariant-loop-j : goal.invariant-loop-j
invariant-loop-j l = l.sum ≡ total (λ i. quad_from l.accounts l.width (l.at + 2 * i)) l.from (l.j - l.from)
