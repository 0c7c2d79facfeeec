-- Tile lists in lent slots of 32 bits. Definitions only.
--     tiles ws          the tiles of words
--     tiles_in t slots   the tiles of the first t slots
--     filled m ts       what m slots hold when the list ts is left in them: its words from the first on, the rest 0
use Rattle.std.specs.Prelude.{List, ◌++◌, map, ℕ, ◌-◌, length, take, replicate}
use Rattle.tile.specs.declared.Tile.{Tile}
use Rattle.tile.specs.Tile.{tile_of, word_of}

abbrev pub tiles : List ℕ → List Tile
tiles ws = map tile_of ws

unfoldable pub tiles_in : ℕ → List ℕ → List Tile
tiles_in t slots = map tile_of (take t slots)

unfoldable pub filled : ℕ → List Tile → List ℕ
filled m ts = map word_of ts ++ replicate (m - length ts) 0
