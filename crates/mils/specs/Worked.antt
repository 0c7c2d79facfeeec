-- Document 02's own lines on positions in mils, and the edges of the form, as one table. All are computed by the
-- checker (proofs/CallComputed.antt). Texts are in bytes: 46 is the point, 48 to 57 are the digits 0 to 9.
use Rattle.std.specs.Prelude.{◌≡◌, true, false, [], ◌∷◌}
use Rattle.refusal.specs.Refusal.{accepted, order_too_large, position_invalid, point_outside, bytes_too_few}
use Rattle.mils.specs.Position.{well_formed}
use Rattle.mils.specs.Calls.{pixel_answer, pixel_of, hundredths_answer, hundredths_of, text_answer, text_of}

pub record MilsLines : Type 0 where
  -- document 02: on a bed of order 10 the last position is 16125.98, and 16125.99 is off the bed
  pub last : pixel_of 10 (49 ∷ 54 ∷ 49 ∷ 50 ∷ 53 ∷ 46 ∷ 57 ∷ 56 ∷ []) ≡ pixel_answer accepted 1023
  pub off : pixel_of 10 (49 ∷ 54 ∷ 49 ∷ 50 ∷ 53 ∷ 46 ∷ 57 ∷ 57 ∷ []) ≡ pixel_answer position_invalid 0
  -- document 02's `123.45`, on beds of 8 and of 4 pixels along a side
  pub eight : pixel_of 3 (49 ∷ 50 ∷ 51 ∷ 46 ∷ 52 ∷ 53 ∷ []) ≡ pixel_answer accepted 7
  pub four : pixel_of 2 (49 ∷ 50 ∷ 51 ∷ 46 ∷ 52 ∷ 53 ∷ []) ≡ pixel_answer position_invalid 0
  -- the step from pixel 0 to pixel 1, `15.74` and `15.75`; on a bed of order 0 the second is off
  pub below : pixel_of 1 (49 ∷ 53 ∷ 46 ∷ 55 ∷ 52 ∷ []) ≡ pixel_answer accepted 0
  pub above : pixel_of 1 (49 ∷ 53 ∷ 46 ∷ 55 ∷ 53 ∷ []) ≡ pixel_answer accepted 1
  pub alone : pixel_of 0 (49 ∷ 53 ∷ 46 ∷ 55 ∷ 53 ∷ []) ≡ pixel_answer position_invalid 0
  -- `0.45` is of the form; `.45`, `00.45` and `01.00` are not
  pub zero : pixel_of 0 (48 ∷ 46 ∷ 52 ∷ 53 ∷ []) ≡ pixel_answer accepted 0
  pub bare : pixel_of 10 (46 ∷ 52 ∷ 53 ∷ []) ≡ pixel_answer position_invalid 0
  pub zeros : pixel_of 10 (48 ∷ 48 ∷ 46 ∷ 52 ∷ 53 ∷ []) ≡ pixel_answer position_invalid 0
  pub led : pixel_of 10 (48 ∷ 49 ∷ 46 ∷ 48 ∷ 48 ∷ []) ≡ pixel_answer position_invalid 0
  -- `1.00` with a blank or a sign ahead, a line feed or a closing 0 behind
  pub blank : pixel_of 10 (32 ∷ 49 ∷ 46 ∷ 48 ∷ 48 ∷ []) ≡ pixel_answer position_invalid 0
  pub sign : pixel_of 10 (43 ∷ 49 ∷ 46 ∷ 48 ∷ 48 ∷ []) ≡ pixel_answer position_invalid 0
  pub feed : pixel_of 10 (49 ∷ 46 ∷ 48 ∷ 48 ∷ 10 ∷ []) ≡ pixel_answer position_invalid 0
  pub closed : pixel_of 10 (49 ∷ 46 ∷ 48 ∷ 48 ∷ 0 ∷ []) ≡ pixel_answer position_invalid 0
  -- `12.0`, `1,00`, `12345`, and no byte at all
  pub decimal : pixel_of 10 (49 ∷ 50 ∷ 46 ∷ 48 ∷ []) ≡ pixel_answer position_invalid 0
  pub comma : pixel_of 10 (49 ∷ 44 ∷ 48 ∷ 48 ∷ []) ≡ pixel_answer position_invalid 0
  pub whole : pixel_of 10 (49 ∷ 50 ∷ 51 ∷ 52 ∷ 53 ∷ []) ≡ pixel_answer position_invalid 0
  pub none : pixel_of 10 [] ≡ pixel_answer position_invalid 0
  -- `99999.99` is of the form and off every bed, `100000.00` is not of the form; nor is `338186.41`, which would be
  -- pixel 0 in 32 bits that wrap
  pub five : well_formed (57 ∷ 57 ∷ 57 ∷ 57 ∷ 57 ∷ 46 ∷ 57 ∷ 57 ∷ []) ≡ true
  pub most : pixel_of 10 (57 ∷ 57 ∷ 57 ∷ 57 ∷ 57 ∷ 46 ∷ 57 ∷ 57 ∷ []) ≡ pixel_answer position_invalid 0
  pub six : well_formed (49 ∷ 48 ∷ 48 ∷ 48 ∷ 48 ∷ 48 ∷ 46 ∷ 48 ∷ 48 ∷ []) ≡ false
  pub wraps : pixel_of 10 (51 ∷ 51 ∷ 56 ∷ 49 ∷ 56 ∷ 54 ∷ 46 ∷ 52 ∷ 49 ∷ []) ≡ pixel_answer position_invalid 0
  -- 1 comes first
  pub order : pixel_of 11 [] ≡ pixel_answer order_too_large 0
  pub order_back : hundredths_of 11 4096 ≡ hundredths_answer order_too_large 0
  -- the way back: the largest, 1,611,024; a pixel off a smaller bed; the first two pixels
  pub largest : hundredths_of 10 1023 ≡ hundredths_answer accepted 1611024
  pub outside : hundredths_of 9 1023 ≡ hundredths_answer point_outside 0
  pub first : hundredths_of 0 0 ≡ hundredths_answer accepted 0
  pub second : hundredths_of 1 1 ≡ hundredths_answer accepted 1575
  -- as text: `16110.24` into nine bytes and into seven, `0.00` into four, and 31 ahead of 26
  pub back : text_of 10 1023 (1 ∷ 2 ∷ 3 ∷ 4 ∷ 5 ∷ 6 ∷ 7 ∷ 8 ∷ 9 ∷ [])
      ≡ text_answer accepted 8 (49 ∷ 54 ∷ 49 ∷ 49 ∷ 48 ∷ 46 ∷ 50 ∷ 52 ∷ 9 ∷ [])
  pub few : text_of 10 1023 (1 ∷ 2 ∷ 3 ∷ 4 ∷ 5 ∷ 6 ∷ 7 ∷ []) ≡ text_answer bytes_too_few 0 (1 ∷ 2 ∷ 3 ∷ 4 ∷ 5 ∷ 6 ∷ 7 ∷ [])
  pub nought : text_of 0 0 (1 ∷ 2 ∷ 3 ∷ 4 ∷ []) ≡ text_answer accepted 4 (48 ∷ 46 ∷ 48 ∷ 48 ∷ [])
  pub outside_few : text_of 0 1 [] ≡ text_answer point_outside 0 []
