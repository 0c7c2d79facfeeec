-- 0 is inside, any other number outside.
use borrow.Author.Tests.{eq-eqb, ne_eqb}
use Rattle.basics.specs.Choice.{if}
use Rattle.combine_rule.specs.Choices.{choice_of}
use Rattle.combine_rule.proofs.ChoiceFromU32.from.Goals as goal

pub returns-then-number-eq0 : goal.returns-then-number-eq0
unfolding choice_of if
returns-then-number-eq0 c = simp (eq-eqb _ _ c.if-number-eq0.true)

pub returns-else-number-eq0 : goal.returns-else-number-eq0
unfolding choice_of if
returns-else-number-eq0 c = simp (ne_eqb _ _ c.if-number-eq0.false)
