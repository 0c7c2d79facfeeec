-- The definition's tests in their order.
use Rattle.std.proofs.Common.{rules, arith, tests}
use Rattle.std.proofs.lemmas.Grind.{common_steps}
use Rattle.table.specs.Load.{sound}
use Rattle.table.proofs.Table.is_sound.Goals as goal

pub returns-then-has_every : goal.returns-then-has_every
unfolding sound
returns-then-has_every c = search (rules, tests)

pub returns-else-has_every : goal.returns-else-has_every
unfolding sound
returns-else-has_every c = grind (arith, common_steps)
