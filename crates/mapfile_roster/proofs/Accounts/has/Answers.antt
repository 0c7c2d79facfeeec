-- The account's bit decides.
use Rattle.mapfile_roster.specs.Accounts.{has}
use borrow.Author.Rules.{rules}
use Rattle.mapfile_roster.proofs.Accounts.has.Goals as goal

pub returns : goal.returns
unfolding has
returns c = search rules
