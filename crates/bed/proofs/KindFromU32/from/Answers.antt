-- 0 is by rows, any other number in Morton order.
use borrow.Author.Tests.{eq-eqb, ne_eqb}
use Rattle.basics.specs.Choice.{if}
use Rattle.bed.specs.Kinds.{kind_of}
use Rattle.bed.proofs.KindFromU32.from.Goals as goal

pub returns-then-number-eq0 : goal.returns-then-number-eq0
unfolding kind_of if
returns-then-number-eq0 c = simp (eq-eqb _ _ c.if-number-eq0.true)

pub returns-else-number-eq0 : goal.returns-else-number-eq0
unfolding kind_of if
returns-else-number-eq0 c = simp (ne_eqb _ _ c.if-number-eq0.false)
