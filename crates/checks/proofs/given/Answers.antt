-- The test of 24.
use borrow.Author.Tests.{lt-leb, le-leb}
use Rattle.refusal.specs.Checks.{must}
use Rattle.checks.specs.Asked.{given_check}
use Rattle.checks.proofs.given.Goals as goal

pub returns-then-account-gt-HIGHEST_ACCOUNT : goal.returns-then-account-gt-HIGHEST_ACCOUNT
unfolding given_check must
returns-then-account-gt-HIGHEST_ACCOUNT c = simp (lt-leb _ _ c.if-account-gt-HIGHEST_ACCOUNT.true)

pub returns : goal.returns
unfolding given_check must
returns c = simp (le-leb _ _ c.if-account-gt-HIGHEST_ACCOUNT.false)
