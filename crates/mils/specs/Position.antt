-- The text of a position in mils (document 02, request 6): one to five digits, a point and two digits, with no needless
-- leading zero. Definitions only.
--     point                  the byte of a point
--     Form text              the form, in these words: its parts, and what each of them is
--     shortest, longest      a text of the form has at least, and at most, so many bytes
--     whole_of, decimals_of    the bytes ahead of the point, and the two behind it
--     needless_zero n b       in a text of n bytes the first one, b, is a zero ahead of other digits of the whole mils
--     well_formed text        the form again, as a test (`Forms` promises that both are the same)
--     hundredths_limit        every text of the form names fewer hundredths
--     named_by text           the hundredths of a mil that a text of the form names: its digits, read as one number
--     position_text h         the text of h hundredths, for h below the limit
use Rattle.std.specs.Prelude.{◌≡◌, Bool, true, ◌&&◌, not, List, [], ◌∷◌, ◌++◌, ℕ, ◌+◌, ◌-◌, ◌/◌, ◌%◌, ◌≤◌, ◌<◌, leb, ltb, eqb, length, take, drop, get_or}
use Rattle.decimal.specs.Decimal.{digits}
use Rattle.decimal.specs.Value.{zero_digit, is_digit, digits_only, value_from}

abbrev pub point : ℕ
point = 46

pub record Form (text : List ℕ) : Type 0 where
  pub whole : List ℕ
  pub tenth : ℕ
  pub hundredth : ℕ
  pub parts : text ≡ whole ++ (point ∷ tenth ∷ hundredth ∷ [])
  pub one : 1 ≤ length whole
  pub five : length whole ≤ 5
  pub needed : 1 < length whole → get_or whole 0 0 ≡ zero_digit → ⊥
  pub digits_whole : digits_only whole ≡ true
  pub digit_tenth : is_digit tenth ≡ true
  pub digit_hundredth : is_digit hundredth ≡ true

abbrev pub shortest : ℕ
shortest = 4

abbrev pub longest : ℕ
longest = 8

abbrev pub whole_of : List ℕ → List ℕ
whole_of text = take (length text - 3) text

abbrev pub decimals_of : List ℕ → List ℕ
decimals_of text = drop (length text - 2) text

unfoldable pub needless_zero : ℕ → ℕ → Bool
needless_zero n b = ltb shortest n && eqb b zero_digit

unfoldable pub well_formed : List ℕ → Bool
well_formed text =
    leb shortest (length text) && leb (length text) longest && eqb (get_or text (length text - 3) 0) point
    && not (needless_zero (length text) (get_or text 0 0)) && digits_only (whole_of text) && digits_only (decimals_of text)

abbrev pub hundredths_limit : ℕ
hundredths_limit = 10000000

unfoldable pub named_by : List ℕ → ℕ
named_by text = value_from 0 (whole_of text ++ decimals_of text)

unfoldable pub position_text : ℕ → List ℕ
position_text h = digits (h / 100) ++ (point ∷ (zero_digit + h / 10 % 10) ∷ (zero_digit + h % 10) ∷ [])
