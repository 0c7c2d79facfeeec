-- Inner: the entry of one account. Definitions only.
--     entry_of a x   the entry of the account a, which covers x pixels, or none where it covers none
use Rattle.std.specs.Prelude.{List, [], ◌∷◌, ℕ, ltb}
use Rattle.basics.specs.Choice.{if}
use Rattle.mapfile_roster.specs.declared.Entry.{Entry}

unfoldable pub entry_of : ℕ → ℕ → List Entry
entry_of a x = if (ltb 0 x) (record { account = a; pixels = x } ∷ []) []
