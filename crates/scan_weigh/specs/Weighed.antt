-- Inner: what the bytes of whole rows weigh by quads. Definitions only. Rows have w bytes, and quads are half as many.
--     quad_from bytes w i        the quad whose north-western byte is number i
--     pair_from bytes w q i      the q quads of the two rows from the byte number i on
--     rows_from bytes w q i h    those of h such pairs of rows
--     NoneAbove bytes lo hi a   no byte from lo up to hi is above a
use Rattle.std.specs.Prelude.{ℕ, ◌+◌, ◌*◌, ◌≤◌, ◌<◌, List, get_or}
use Rattle.scan_stretch.specs.Weight.{weight, total}

abbrev pub quad_from : List ℕ → ℕ → ℕ → ℕ
quad_from bytes w i = weight (get_or bytes i 0) (get_or bytes (i + 1) 0) (get_or bytes (i + w) 0) (get_or bytes (i + w + 1) 0)

abbrev pub pair_from : List ℕ → ℕ → ℕ → ℕ → ℕ
pair_from bytes w q i = total (λ j. quad_from bytes w (i + 2 * j)) 0 q

abbrev pub rows_from : List ℕ → ℕ → ℕ → ℕ → ℕ → ℕ
rows_from bytes w q i h = total (λ j. pair_from bytes w q (i + j * (2 * w))) 0 h

abbrev pub NoneAbove : List ℕ → ℕ → ℕ → ℕ → Type 0
NoneAbove bytes lo hi a = (i : ℕ) → lo ≤ i → i < hi → get_or bytes i 0 ≤ a
