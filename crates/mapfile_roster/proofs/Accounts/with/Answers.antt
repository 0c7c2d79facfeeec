-- The account's bit is set, and no other changes.
use Rattle.mapfile_roster.proofs.AccountsLaws.{with_one}
use Rattle.mapfile_roster.proofs.Accounts.with.Goals as goal

pub returns : goal.returns
returns c = with_one c.args.self c.args.account c.requires
