-- Inner: the pixels of tiles and of entries. Definitions only.
--     file_tiles ws         the tiles of words in their bytes
--     rises least es        the accounts of the entries rise, the first from `least` on
--     area_of ts            the pixels of all tiles
--     pixels_in es          the pixels that the entries say they have, together
--     entry_right ts e      the entry has the pixels of its account, of which there are some
--     entries_right ts es   each entry does
use Rattle.std.specs.Prelude.{Bool, true, ◌&&◌, List, [], ◌∷◌, ℕ, ◌+◌, ◌^◌, ltb, leb, eqb, suc, map}
use Rattle.tile.specs.declared.Tile.{Tile}
use Rattle.tile.specs.Tile.{tile_of}
use Rattle.mapfile_bytes.specs.Items.{word_at}
use Rattle.mapfile_roster.specs.declared.Entry.{Entry}
use Rattle.mapfile_roster.specs.Roster.{covered}

abbrev pub file_tiles : List (List ℕ) → List Tile
file_tiles ws = map tile_of (map (λ w. word_at w 0) ws)

unfoldable pub rises : ℕ → List Entry → Bool
rises least [] = true
rises least (e ∷ es) = leb least e.account && rises (suc e.account) es

unfoldable pub area_of : List Tile → ℕ
area_of [] = 0
area_of (t ∷ ts) = 4 ^ t.size + area_of ts

unfoldable pub pixels_in : List Entry → ℕ
pixels_in [] = 0
pixels_in (e ∷ es) = e.pixels + pixels_in es

unfoldable pub entry_right : List Tile → Entry → Bool
entry_right ts e = ltb 0 (covered e.account ts) && eqb e.pixels (covered e.account ts)

unfoldable pub entries_right : List Tile → List Entry → Bool
entries_right ts [] = true
entries_right ts (e ∷ es) = entry_right ts e && entries_right ts es
