-- The loop keeps `Looked`: what is ahead of i is clear.
use Prim.Native.Nat.{◌-◌, ◌≤◌}
use Rattle.list_flat.proofs.StretchLaws.{Looked}
use Rattle.list_flat.proofs.flat.Given as goal

abbrev pub invariant-loop-i : goal.invariant-loop-i
invariant-loop-i l = (l.from ≤ l.i) × (l.i ≤ l.end) × Looked l.slots l.order l.from l.i

abbrev pub decreases-loop-i : goal.decreases-loop-i
decreases-loop-i l = l.end - l.i
