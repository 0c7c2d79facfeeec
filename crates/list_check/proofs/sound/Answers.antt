-- The word breaks no check, or the one that it breaks is named.
use mathlib.Core.Path.{sym}
use Rattle.basics.proofs.Tests.{told_true, told_false}
use Rattle.list_check.proofs.sound.Goals as goal

pub returns-then-plain : goal.returns-then-plain
returns-then-plain c = sym (told_true c.plain.ensures c.if-plain.true)

pub returns : goal.returns
returns c = c.broken.ensures c.args.stop (told_false c.plain.ensures c.if-plain.false)
