-- The calls on positions in mils (document 02, request 6). They take an order and one coordinate, a column or a row
-- alike, which is called the pixel here; and no map. Definitions only.
--     pixel_of n text      the pixel of a position on a bed of order n: 1, then 53 for another form, 53 off the bed
--     hundredths_of n p    the smallest hundredths of a mil in a pixel: 1, 31
--     text_of n p out      their text, put into lent bytes; those behind it stay: 1, 31, 26
--     position_asked, pixel_asked, text_asked         their checks
--     pixel_answer, hundredths_answer, text_answer    their answers, the last with the bytes left
use Rattle.std.specs.Prelude.{List, ◌++◌, ℕ, ◌^◌, leb, ltb, length, drop}
use Rattle.refusal.specs.Refusal.{accepted, position_invalid, bytes_too_few}
use Rattle.refusal.specs.Checks.{must, or_else, unless, After}
use Rattle.checks.specs.Asked.{order_check, coordinate_check}
use Rattle.mils.specs.declared.PixelAnswer.{PixelAnswer}
use Rattle.mils.specs.declared.HundredthsAnswer.{HundredthsAnswer}
use Rattle.mils.specs.declared.TextAnswer.{TextAnswer}
use Rattle.mils.specs.Mils.{pixel_at, smallest_in}
use Rattle.mils.specs.Position.{well_formed, named_by, position_text}

abbrev pub pixel_answer : ℕ → ℕ → PixelAnswer
pixel_answer number p = record { number = number; pixel = p }

unfoldable pub position_asked : ℕ → List ℕ → ℕ
position_asked n text =
    or_else (order_check n)
    (must (well_formed text) position_invalid (must (ltb (pixel_at (named_by text)) (2 ^ n)) position_invalid accepted))

unfoldable pub pixel_of : ℕ → List ℕ → PixelAnswer
pixel_of n text =
    unless (position_asked n text) (λ number. pixel_answer number 0) (pixel_answer accepted (pixel_at (named_by text)))

abbrev pub hundredths_answer : ℕ → ℕ → HundredthsAnswer
hundredths_answer number h = record { number = number; h = h }

unfoldable pub pixel_asked : ℕ → ℕ → ℕ
pixel_asked n p = or_else (order_check n) (coordinate_check n p)

unfoldable pub hundredths_of : ℕ → ℕ → HundredthsAnswer
hundredths_of n p =
    unless (pixel_asked n p) (λ number. hundredths_answer number 0) (hundredths_answer accepted (smallest_in p))

abbrev pub text_answer : ℕ → ℕ → List ℕ → After TextAnswer
text_answer number l bytes = record { answer = record { number = number; length = l }; storage = bytes }

unfoldable pub text_asked : ℕ → ℕ → List ℕ → ℕ
text_asked n p out =
    or_else (pixel_asked n p) (must (leb (length (position_text (smallest_in p))) (length out)) bytes_too_few accepted)

unfoldable pub text_of : ℕ → ℕ → List ℕ → After TextAnswer
text_of n p out =
    unless (text_asked n p out) (λ number. text_answer number 0 out)
    (text_answer accepted (length (position_text (smallest_in p)))
    (position_text (smallest_in p) ++ drop (length (position_text (smallest_in p))) out))
