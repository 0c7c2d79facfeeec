-- The loop keeps `Grown`: the words from `at` on and the tile can be dropped for the tile of the size reached.
use Rattle.list_push.proofs.Growth.{Grown}
use Prim.Native.Nat.{◌≤◌}
use Rattle.list_push.proofs.merge.Given as goal

abbrev pub invariant-loop-size : goal.invariant-loop-size
invariant-loop-size l = (l.size ≤ l.levels) × Grown l.slots l.front l.tile l.at l.size
