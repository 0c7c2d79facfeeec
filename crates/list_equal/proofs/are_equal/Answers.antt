-- The words are compared in turn: what is left to compare decides.
use mathlib.Core.Path.{◌∙◌, refl, sym}
use native.Mathlib.Omega.{arith}
use Rattle.list_equal.proofs.Turns.{tiles_differ, tiles_same, read_more, read_other, read_all}
use Rattle.list_equal.proofs.are_equal.Goals as goal

pub returns-then-ne : goal.returns-then-ne
returns-then-ne c = read_other c.loop-word.invariant (omega arith) _ refl (λ e. tiles_differ _ _ c.ne.ensures c.if-ne.true (c.from.ensures ∙ e))

pub loop-word-preserved : goal.loop-word-preserved
loop-word-preserved c = read_more c.loop-word.invariant (omega arith) _ refl (sym c.from.ensures ∙ tiles_same _ _ c.ne.ensures c.if-ne.false) _ c.area-area.ensures

pub returns : goal.returns
returns c = read_all c.loop-word.invariant (omega arith)
