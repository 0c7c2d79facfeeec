-- The bits of somebody's accounts are counted.
use Rattle.mapfile_roster.proofs.AccountsLaws.{count_bits, count_fits}
use native.Mathlib.Omega.{arith}
use Rattle.mapfile_roster.proofs.Accounts.count.Goals as goal

pub returns : goal.returns
returns c = count_bits c.args.self (omega arith)

pub overflow_cast-result-2 : goal.overflow_cast-result-2
overflow_cast-result-2 c = omega (arith, count_fits c.args.self, count_bits c.args.self (omega arith))
