-- The sections of a map file as bytes (document 01, "The map file"). Definitions only. All numbers stand high byte
-- first.
--     word_bytes w       a number in 4 bytes
--     words_bytes ws     numbers in 4 bytes each
--     entries_bytes es   roster entries in 5 bytes each
--     roster_bytes es    the roster section: its count, and its entries
use Rattle.std.specs.Prelude.{List, [], ◌∷◌, ◌++◌, ℕ, ◌/◌, ◌%◌, ◌^◌, length}
use Rattle.mapfile_roster.specs.declared.Entry.{Entry}

abbrev pub word_bytes : ℕ → List ℕ
word_bytes w = w / 2 ^ 24 ∷ w / 2 ^ 16 % 256 ∷ w / 2 ^ 8 % 256 ∷ w % 256 ∷ []

unfoldable pub words_bytes : List ℕ → List ℕ
words_bytes [] = []
words_bytes (w ∷ ws) = word_bytes w ++ words_bytes ws

unfoldable pub entries_bytes : List Entry → List ℕ
entries_bytes [] = []
entries_bytes (e ∷ es) = e.account ∷ (word_bytes e.pixels ++ entries_bytes es)

abbrev pub roster_bytes : List Entry → List ℕ
roster_bytes es = length es ∷ entries_bytes es
