-- What is promised of positions in mils (document 02, request 6), for every order, text and pixel, which is a column or
-- a row here. Definitions only.
--     Lies h p        h lies in the pixel p, by the floor's two inequalities
--     Floors          the pixel of h is the one that it lies in
--     Ceilings        the smallest h of a pixel by its two, and no other number has them
--     Spans           so a pixel has the h from its smallest up to the next pixel's, and no others
--     Fits            the products of the two ways stay below 2 ^ 32
--     Forms           the test of the form is the form, and a text names the number that its digits make (`Read`)
--     Texts           the texts of the form are those of the numbers below the limit, one for each
--     Positions       what every text is answered: the pixel in which it lies, 53 off the bed or of another form
--                     (`Found`)
--     ThereAndBack    the way back from a pixel on the bed: the smallest h, whose text leads to it again (`Back`)
--     Alike           on any input the way back as text is refused where the number is, or has too few bytes for the
--                     text of that number, or puts it and touches no byte behind it (`PutAlike`)
--     Refusals        1 for an order above the highest, 31 for a pixel off the bed
use Rattle.std.specs.Prelude.{◌≡◌, true, List, ◌↔◌, ℕ, ◌+◌, ◌-◌, ◌*◌, ◌^◌, ◌≤◌, ◌<◌, length, take, drop}
use Rattle.refusal.specs.Refusal.{accepted, order_too_large, bytes_too_few, point_outside, position_invalid}
use Rattle.tile.specs.Tile.{highest_order}
use Rattle.decimal.specs.Value.{zero_digit, value_from}
use Rattle.mils.specs.Mils.{pixel_at, smallest_in, Smallest}
use Rattle.mils.specs.Position.{Form, shortest, longest, hundredths_limit, well_formed, named_by, position_text}
use Rattle.mils.specs.Calls.{pixel_answer, pixel_of, hundredths_answer, hundredths_of, text_answer, text_of}

abbrev pub Lies : ℕ → ℕ → Type 0
Lies h p = (p * 200000 ≤ h * 127) × (h * 127 < (p + 1) * 200000)

unfoldable pub Floors : Type 0
Floors = (h p : ℕ) → (pixel_at h ≡ p) ↔ Lies h p

unfoldable pub Ceilings : Type 0
Ceilings = (p h : ℕ) → (smallest_in p ≡ h) ↔ ((p * 200000 ≤ h * 127) × (h * 127 < p * 200000 + 127))

unfoldable pub Spans : Type 0
Spans = (h p : ℕ) → (pixel_at h ≡ p) ↔ ((smallest_in p ≤ h) × (h < smallest_in (p + 1)))

pub record Fits : Type 0 where
  pub there : (h : ℕ) → h < hundredths_limit → h * 127 < 2 ^ 32
  pub back : (p : ℕ) → p < 2 ^ highest_order → p * 200000 + 126 < 2 ^ 32

pub record Read (text : List ℕ) : Type 0 where
  pub tested : (well_formed text ≡ true) ↔ Form text
  pub value : (f : Form text) →
      named_by text ≡ value_from 0 f.whole * 100 + (f.tenth - zero_digit) * 10 + (f.hundredth - zero_digit)

unfoldable pub Forms : Type 0
Forms = (text : List ℕ) → Read text

pub record Texts : Type 0 where
  pub formed : (h : ℕ) → h < hundredths_limit → Form (position_text h)
  pub read : (h : ℕ) → h < hundredths_limit → named_by (position_text h) ≡ h
  pub small : (text : List ℕ) → Form text → named_by text < hundredths_limit
  pub only : (text : List ℕ) → Form text → text ≡ position_text (named_by text)

pub record Found (n : ℕ) (text : List ℕ) : Type 0 where
  pub on : Form text → (p : ℕ) → Lies (named_by text) p → p < 2 ^ n → pixel_of n text ≡ pixel_answer accepted p
  pub off : Form text → (p : ℕ) → Lies (named_by text) p → 2 ^ n ≤ p → pixel_of n text ≡ pixel_answer position_invalid 0
  pub other : (Form text → ⊥) → pixel_of n text ≡ pixel_answer position_invalid 0

unfoldable pub Positions : Type 0
Positions = (n : ℕ) (text : List ℕ) → n ≤ highest_order → Found n text

pub record Back (n p : ℕ) : Type 0 where
  pub accepts : (hundredths_of n p).number ≡ accepted
  pub smallest : Smallest p (hundredths_of n p).h
  pub again : pixel_of n (position_text (hundredths_of n p).h) ≡ pixel_answer accepted p
  pub most : (hundredths_of n p).h ≤ 1611024
  pub bytes : (shortest ≤ length (position_text (hundredths_of n p).h))
      × (length (position_text (hundredths_of n p).h) ≤ longest)

unfoldable pub ThereAndBack : Type 0
ThereAndBack = (n p : ℕ) → n ≤ highest_order → p < 2 ^ n → Back n p

pub record PutAlike (n p : ℕ) (out : List ℕ) : Type 0 where
  pub refused : ((hundredths_of n p).number ≡ accepted → ⊥) → text_of n p out ≡ text_answer (hundredths_of n p).number 0 out
  pub few : (hundredths_of n p).number ≡ accepted → length out < length (position_text (hundredths_of n p).h) →
      text_of n p out ≡ text_answer bytes_too_few 0 out
  pub put : (hundredths_of n p).number ≡ accepted → length (position_text (hundredths_of n p).h) ≤ length out →
      ((text_of n p out).answer ≡ record { number = accepted; length = length (position_text (hundredths_of n p).h) })
      × (take (text_of n p out).answer.length (text_of n p out).storage ≡ position_text (hundredths_of n p).h)
      × (drop (text_of n p out).answer.length (text_of n p out).storage ≡ drop (text_of n p out).answer.length out)

unfoldable pub Alike : Type 0
Alike = (n p : ℕ) (out : List ℕ) → PutAlike n p out

pub record Refusals : Type 0 where
  pub order : (n : ℕ) (text : List ℕ) → highest_order < n → pixel_of n text ≡ pixel_answer order_too_large 0
  pub order_back : (n p : ℕ) → highest_order < n → hundredths_of n p ≡ hundredths_answer order_too_large 0
  pub outside : (n p : ℕ) → n ≤ highest_order → 2 ^ n ≤ p → hundredths_of n p ≡ hundredths_answer point_outside 0
