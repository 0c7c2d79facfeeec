-- Inner: sets of accounts: bit a of a set is 1 where the account a is in it. Definitions only.
--     has set a     the account a is in the set
--     SetOf g set   the accounts in the set are those that pass the test g
--     count set     how many of somebody's accounts are in the set
use Rattle.std.specs.Prelude.{◌≡◌, Bool, ℕ, zero, suc, ◌+◌, ◌/◌, ◌%◌, ◌^◌, ◌≤◌, eqb}
use Rattle.basics.specs.Choice.{if}
use Rattle.tile.specs.Tile.{highest_account}
use Rattle.mapfile_roster.specs.declared.Accounts.{Accounts}

unfoldable pub has : Accounts → ℕ → Bool
has set a = eqb (set.bits / 2 ^ a % 2) 1

pub record SetOf (g : ℕ → Bool) (set : Accounts) : Type 0 where
  pub test : (a : ℕ) → a ≤ highest_account → has set a ≡ g a

-- those of the k accounts from a on that are in the set
unfoldable pub count_from : Accounts → ℕ → ℕ → ℕ
count_from set a zero = 0
count_from set a (suc k) = if (has set a) 1 0 + count_from set (suc a) k

abbrev pub count : Accounts → ℕ
count set = count_from set 1 highest_account
