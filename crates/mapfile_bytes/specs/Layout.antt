-- Where the items of a map file stand, and how many bytes they take (document 01, "The map file"). Definitions only.
--     count_place      where the tile count stands: behind the order, which is one byte
--     word_length      the bytes of a tile count, a tile word, or an entry's pixels
--     words_place      where the tile words stand
--     roster_place t   where the roster section of t tiles stands
--     entries_place    where the entries stand in the roster section: behind their count, which is one byte
--     entry_length     the bytes of an entry: its account, which is one byte, and its pixels
--     roster_length q  the bytes of a roster section of q entries
--     file_length t q  the bytes of a file of t tiles and q entries
use Rattle.std.specs.Prelude.{ℕ, ◌+◌, ◌*◌}

abbrev pub count_place : ℕ
count_place = 1

abbrev pub word_length : ℕ
word_length = 4

abbrev pub words_place : ℕ
words_place = count_place + word_length

abbrev pub roster_place : ℕ → ℕ
roster_place t = words_place + word_length * t

abbrev pub entries_place : ℕ
entries_place = 1

abbrev pub entry_length : ℕ
entry_length = 1 + word_length

abbrev pub roster_length : ℕ → ℕ
roster_length q = entries_place + entry_length * q

abbrev pub file_length : ℕ → ℕ → ℕ
file_length t q = words_place + entries_place + word_length * t + entry_length * q
