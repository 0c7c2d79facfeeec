-- The roster of a map file (document 01, "The map file"): each account of the tiles once, with the pixels it covers, by
-- rising account (document 02, request 7). Definitions only.
--     covered a ts         how many pixels the tiles of account a cover
--     entry_in bs           the entry in its 5 bytes
--     roster_of ts          the roster, by rising account
--     listed a es          how many entries are the account's
--     roster_good ts es     each entry has an account of the tiles with its pixels, and is its only one; each tile's
--                          account has an entry. Where the entries stand does not matter here: it is checked ahead
use Rattle.std.specs.Prelude.{Bool, true, ◌&&◌, List, [], ◌∷◌, ℕ, zero, suc, ◌+◌, ◌^◌, ltb, eqb, get_or}
use Rattle.basics.specs.Choice.{if}
use Rattle.tile.specs.declared.Tile.{Tile}
use Rattle.tile.specs.Tile.{highest_account}
use Rattle.mapfile_bytes.specs.Items.{word_at}
use Rattle.mapfile_roster.specs.declared.Entry.{Entry}

unfoldable pub covered : ℕ → List Tile → ℕ
covered a [] = 0
covered a (t ∷ ts) = if (eqb t.account a) (4 ^ t.size) 0 + covered a ts

abbrev pub entry_in : List ℕ → Entry
entry_in bs = record { account = get_or bs 0 0; pixels = word_at bs 1 }

-- the entries of those of the k accounts from a on that have tiles
unfoldable pub roster_from : List Tile → ℕ → ℕ → List Entry
roster_from ts a zero = []
roster_from ts a (suc k) =
    if (ltb 0 (covered a ts))
    (record { account = a; pixels = covered a ts } ∷ roster_from ts (suc a) k)
    (roster_from ts (suc a) k)

abbrev pub roster_of : List Tile → List Entry
roster_of ts = roster_from ts 1 highest_account

unfoldable pub listed : ℕ → List Entry → ℕ
listed a [] = 0
listed a (e ∷ es) = if (eqb e.account a) 1 0 + listed a es

unfoldable pub entry_good : List Tile → List Entry → Entry → Bool
entry_good ts all e = ltb 0 (covered e.account ts) &&
    (eqb e.pixels (covered e.account ts) && eqb (listed e.account all) 1)

unfoldable pub entries_good : List Tile → List Entry → List Entry → Bool
entries_good ts all [] = true
entries_good ts all (e ∷ es) = entry_good ts all e && entries_good ts all es

unfoldable pub tiles_listed : List Entry → List Tile → Bool
tiles_listed all [] = true
tiles_listed all (t ∷ ts) = ltb 0 (listed t.account all) && tiles_listed all ts

unfoldable pub roster_good : List Tile → List Entry → Bool
roster_good ts es = entries_good ts es es && tiles_listed es ts
