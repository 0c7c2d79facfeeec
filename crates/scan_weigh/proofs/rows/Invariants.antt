-- So far the sum is that of the pairs ahead.
use Rattle.scan_weigh.specs.Weighed.{pair_from}
use Rattle.scan_stretch.specs.Weight.{total}
use mathlib.Core.Path.{◌≡◌}
use Prim.Native.Nat.{◌+◌, ◌*◌}
use Rattle.scan_weigh.proofs.rows.Given as goal

abbrev pub invariant-loop-j : goal.invariant-loop-j
invariant-loop-j l = l.sum ≡ total (λ j. pair_from l.accounts l.width l.quads (l.at + j * (2 * l.width))) 0 l.j
