-- The two tests of 34.
use borrow.Author.Tests.{lt-ltb, le-ltb, lt-leb, le-leb}
use Rattle.refusal.specs.Checks.{must}
use Rattle.tile.specs.Tile.{highest_account}
use Rattle.checks.specs.Asked.{asker_check}
use native.Mathlib.Omega.{arith}
use Rattle.checks.proofs.asker.Goals as goal

pub returns-then-asking-eq0 : goal.returns-then-asking-eq0
unfolding asker_check must
returns-then-asking-eq0 c = simp (le-ltb 0 c.args.asking (omega (arith, c.if-asking-eq0.true)))

pub returns-then-asking-gt-HIGHEST_ACCOUNT : goal.returns-then-asking-gt-HIGHEST_ACCOUNT
unfolding asker_check must
returns-then-asking-gt-HIGHEST_ACCOUNT c =
    let a = c.args.asking in
    simp (lt-ltb 0 a (omega (arith, c.if-asking-eq0.false)), lt-leb a highest_account (omega arith))

pub returns : goal.returns
unfolding asker_check must
returns c =
    let a = c.args.asking in
    simp (lt-ltb 0 a (omega (arith, c.if-asking-eq0.false)), le-leb a highest_account (omega arith))
