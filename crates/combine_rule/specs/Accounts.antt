-- Inner: the proof of the law that a rule owes, of the rule of a choice: of two accounts it makes an account.
use Prim.Native.Nat.{zero, suc}
use native.Mathlib.Omega.{arith}
use Rattle.combine_rule.specs.declared.Choice.{Choice}
use Rattle.combine_rule.specs.declared.Choice.TheVariants.{Inside, Outside}
use Rattle.combine_rule.specs.Rule.{rule_of, MakesAccounts}

pub rule_accounts : (choice : Choice) → MakesAccounts (rule_of choice)
unfolding rule_of
rule_accounts Inside a zero h l = omega arith
rule_accounts Inside a (suc b) h l = h
rule_accounts Outside a zero h l = h
rule_accounts Outside a (suc b) h l = omega arith
