-- Digits, as bytes, read as a number. Definitions only.
--     zero_digit, nine_digit   the bytes of the digits 0 and 9
--     is_digit b              the byte b is that of a digit
--     digits_only bs          each byte of bs is
--     value_from v bs         the number v with the digits bs written behind it
use Rattle.std.specs.Prelude.{Bool, true, ◌&&◌, List, [], ◌∷◌, ℕ, ◌+◌, ◌-◌, ◌*◌, leb}

abbrev pub zero_digit : ℕ
zero_digit = 48

abbrev pub nine_digit : ℕ
nine_digit = 57

unfoldable pub is_digit : ℕ → Bool
is_digit b = leb zero_digit b && leb b nine_digit

unfoldable pub digits_only : List ℕ → Bool
digits_only [] = true
digits_only (b ∷ bs) = is_digit b && digits_only bs

unfoldable pub value_from : ℕ → List ℕ → ℕ
value_from v [] = v
value_from v (b ∷ bs) = value_from (v * 10 + (b - zero_digit)) bs
