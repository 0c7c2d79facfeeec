-- The words are compared in turn: what is left to compare decides.
use Rattle.list_equal.proofs.Turns.{Reading}
use Rattle.list_equal.proofs.are_equal.Given as goal

abbrev pub invariant-loop-word : goal.invariant-loop-word
invariant-loop-word l = Reading l.fn.first l.words l.word-index l.expected
