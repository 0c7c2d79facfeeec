-- The class limits, in the definition's order.
use Rattle.std.proofs.Common.{arith}
use borrow.Author.Tests.{lt-leb, le-leb}
use Rattle.basics.specs.Choice.{if}
use Rattle.table.specs.Table.{class_of}
use Rattle.table.proofs.Class.of.Goals as goal

pub returns-then-account-le-LAST_STAFF : goal.returns-then-account-le-LAST_STAFF
unfolding class_of if
returns-then-account-le-LAST_STAFF c = simp (le-leb c.args.account 7 (omega arith))

pub returns-then-account-le-LAST_STUDENT : goal.returns-then-account-le-LAST_STUDENT
unfolding class_of if
returns-then-account-le-LAST_STUDENT c =
    let a = c.args.account in
    simp (lt-leb a 7 (omega arith), le-leb a 47 (omega arith))

pub returns : goal.returns
unfolding class_of if
returns c =
    let a = c.args.account in
    simp (lt-leb a 7 (omega arith), lt-leb a 47 (omega arith))
