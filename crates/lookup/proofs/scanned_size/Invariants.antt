-- The loop keeps that the block of the next size, up to the first one, is not wholly scanned; the pixel itself is.
use Prim.Native.Nat.{suc, ◌≤◌, ◌<◌}
use Rattle.lookup.specs.Stretch.{Scanned}
use Rattle.lookup.proofs.scanned_size.Given as goal

abbrev pub invariant-loop-k : goal.invariant-loop-k
invariant-loop-k l = (l.k ≤ l.size) × (l.k < l.size → Scanned l.scan (suc l.k) l.z → ⊥)
