-- By halves: the word ahead of `low` passes, and the word at `high` does not.
use mathlib.Core.Bool.{true, false}
use Prim.Native.Nat.{◌-◌, ◌≤◌, ◌<◌}
use lib.ListN.{get_or}
use Rattle.list_search.proofs.turn.Given as goal

abbrev pub invariant-loop-low : goal.invariant-loop-low
invariant-loop-low g l = record {
  low : l.from ≤ l.low;
  order : l.low ≤ l.high;
  high : l.high ≤ l.to;
  ahead : l.from < l.low → goal.P-post g l.passes (get_or l.words (l.low - 1) 0) true;
  behind : l.high < l.to → goal.P-post g l.passes (get_or l.words l.high 0) false;
}

abbrev pub decreases-loop-low : goal.decreases-loop-low
decreases-loop-low g l = l.high - l.low
