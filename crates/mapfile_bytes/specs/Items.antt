-- The numbers in the bytes of a map file, by their position, high byte first. Definitions only.
--     word_at bs p      the number in the 4 bytes from p on
--     words_at t bs p   the t words from p on
use Rattle.std.specs.Prelude.{List, [], ◌∷◌, ℕ, zero, suc, ◌+◌, ◌*◌, get_or}
use Rattle.mapfile_bytes.specs.Layout.{word_length}

unfoldable pub word_at : List ℕ → ℕ → ℕ
word_at bs p = ((get_or bs p 0 * 256 + get_or bs (p + 1) 0) * 256 + get_or bs (p + 2) 0) * 256 + get_or bs (p + 3) 0

unfoldable pub words_at : ℕ → List ℕ → ℕ → List ℕ
words_at zero bs p = []
words_at (suc t) bs p = word_at bs p ∷ words_at t bs (p + word_length)
