-- Lines of numbers, as bytes. Definitions only.
--     space, line_feed     the bytes between numbers and behind a line
--     triple_most          no line of three numbers has more bytes
--     pair_line v m w n    the words v and w, each with its number behind it, and a line feed
--     triple_line a b c    three numbers with a space between them, and a line feed
use Rattle.std.specs.Prelude.{List, [], ◌∷◌, ◌++◌, ℕ, ◌+◌, ◌*◌}
use Rattle.decimal.specs.Decimal.{digits_most, digits}

abbrev pub space : ℕ
space = 32

abbrev pub line_feed : ℕ
line_feed = 10

abbrev pub triple_most : ℕ
triple_most = 3 * digits_most + 3

abbrev pub pair_line : List ℕ → ℕ → List ℕ → ℕ → List ℕ
pair_line v m w n = v ++ (digits m ++ (w ++ (digits n ++ (line_feed ∷ []))))

abbrev pub triple_line : ℕ → ℕ → ℕ → List ℕ
triple_line a b c = digits a ++ (space ∷ (digits b ++ (space ∷ (digits c ++ (line_feed ∷ [])))))
