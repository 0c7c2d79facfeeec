-- Tiles and tile words (document 01, "What the product holds"). Definitions only; the bit layout and the limits stand
-- here and nowhere else.
--     Tile, tile c k a            a tile: corner c, size k, account a
--     stop t                      the first Morton number past the tile t
--     corner_at k z                the corner of the block of size k that has the Morton number z
--     highest_order                orders and sizes go from 0 to it
--     highest_account              accounts go from 0, nobody's, to it
--     word_limit                   the words of tiles are below it
--     word_of t                    the word of the tile t
--     tile_of w                    the tile of the word w
-- Not here: which tiles lie in a bed (quadtree, `Quadrant`), which words are refused (list_check, `word_check`).
use Rattle.std.specs.Prelude.{ℕ, ◌+◌, ◌-◌, ◌*◌, ◌/◌, ◌%◌, ◌^◌}
use Rattle.tile.specs.declared.Tile.{Tile}

abbrev pub tile : ℕ → ℕ → ℕ → Tile
tile c k a = record { corner = c; size = k; account = a }

-- "it covers the numbers from corner to corner + 4^k − 1"
abbrev pub stop : Tile → ℕ
stop t = t.corner + 4 ^ t.size

-- the multiple of 4 ^ k at or next below z
abbrev pub corner_at : ℕ → ℕ → ℕ
corner_at k z = z - z % 4 ^ k

abbrev pub highest_order : ℕ
highest_order = 10

abbrev pub highest_account : ℕ
highest_account = 63

-- bits 31 to 30 are zero
abbrev pub word_limit : ℕ
word_limit = 2 ^ 30

-- bits 29 to 10 the corner, bits 9 to 6 the size, bits 5 to 0 the account
unfoldable pub word_of : Tile → ℕ
word_of t = t.corner * 2 ^ 10 + t.size * 2 ^ 6 + t.account

-- the corner is what stands above the size, so that each word is the word of its tile; below `word_limit` it is bits 29
-- to 10
unfoldable pub tile_of : ℕ → Tile
tile_of w = record { corner = w / 2 ^ 10; size = w / 2 ^ 6 % 2 ^ 4; account = w % 2 ^ 6 }
