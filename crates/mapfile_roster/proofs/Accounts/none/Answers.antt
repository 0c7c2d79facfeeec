-- No bit is set.
use Rattle.mapfile_roster.proofs.AccountsLaws.{none_in}
use Rattle.mapfile_roster.proofs.Accounts.none.Goals as goal

pub returns : goal.returns
returns c = none_in
