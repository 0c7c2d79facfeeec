-- The loop keeps `Going`: what is ahead is known, and the words from the next one on decide.
use Prim.Native.Nat.{ℕ}
use lib.ListN.{length, take}
use Rattle.list_check.specs.Pass.{Going}
use Rattle.list_check.proofs.exact.Given as goal

abbrev pub invariant-loop-word : goal.invariant-loop-word
invariant-loop-word l =
    (x : ℕ) → Going l.order (take l.most l.words) x 0 l.initial.ahead → Going l.order (take l.most l.words) x (length l.yielded) l.ahead
