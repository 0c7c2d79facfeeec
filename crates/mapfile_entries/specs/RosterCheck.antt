-- The roster section of a map file, checked against the tiles (document 01, "Refusals", the order of reading; document
-- 02, request 7). Definitions only.
--     entries_at q rs p            the q roster entries from p on
--     entries_check q least rs p   q entries from p on, one by one: 41 where the bytes end before it, then 54 where its
--                                 account is below `least`. That is 0 for the first entry, which has none ahead of it,
--                                 and from then on the account ahead plus 1
--     roster_check ts rs           the roster section rs: 41 for its count, 41 and 54 entry by entry, 42, 43
use Rattle.std.specs.Prelude.{List, [], ◌∷◌, ℕ, zero, suc, ◌+◌, leb, length, get_or}
use Rattle.refusal.specs.Refusal.{accepted, file_cut_short, trailing_bytes, roster_wrong, roster_unsorted}
use Rattle.refusal.specs.Checks.{must, or_else}
use Rattle.tile.specs.declared.Tile.{Tile}
use Rattle.mapfile_bytes.specs.Layout.{entries_place, entry_length, roster_length}
use Rattle.mapfile_bytes.specs.Items.{word_at}
use Rattle.mapfile_roster.specs.declared.Entry.{Entry}
use Rattle.mapfile_roster.specs.Roster.{roster_good}

unfoldable pub entries_at : ℕ → List ℕ → ℕ → List Entry
entries_at zero rs p = []
entries_at (suc q) rs p = record { account = get_or rs p 0; pixels = word_at rs (p + 1) } ∷ entries_at q rs (p + entry_length)

unfoldable pub entries_check : ℕ → ℕ → List ℕ → ℕ → ℕ
entries_check zero least rs p = accepted
entries_check (suc q) least rs p =
    must (leb (p + entry_length) (length rs)) file_cut_short
    (must (leb least (get_or rs p 0)) roster_unsorted
    (entries_check q (suc (get_or rs p 0)) rs (p + entry_length)))

unfoldable pub roster_check : List Tile → List ℕ → ℕ
roster_check ts rs =
    must (leb 1 (length rs)) file_cut_short
    (or_else (entries_check (get_or rs 0 0) 0 rs entries_place)
    (must (leb (length rs) (roster_length (get_or rs 0 0))) trailing_bytes
    (must (roster_good ts (entries_at (get_or rs 0 0) rs entries_place)) roster_wrong accepted)))
