-- Laws of the text of a position.
--     text_length         how many bytes it has
--     text_formed         it has the form, below the limit
--     text_named          and names the position
--     form_same           two texts of the form that name the same position are the same
--     form_text           so a text of the form is that of what it names
use mathlib.Core.Path.{◌≡◌, sym, ap₂, ◌∙◌}
use mathlib.Core.List.{List, [], ◌∷◌, ◌++◌}
use Prim.Native.Nat.{ℕ, ◌+◌, ◌/◌, ◌%◌, ◌^◌, ◌≤◌, ◌<◌}
use native.Mathlib.Decide.{dec_lt}
use native.Mathlib.Omega.{arith}
use lib.ListN.{length}
use Rattle.decimal.specs.Decimal.{digits_most, digits}
use Rattle.decimal.specs.Value.{zero_digit, value_from}
use Rattle.decimal.proofs.DecimalLaws.{digits_by_below}
use Rattle.decimal.proofs.ValueLaws.{digit_low, digit_high, digit_is}
use Rattle.decimal.proofs.DigitsValue.{digits_places, digits_only_lem, digits_value, digits_first}
use Rattle.decimal.proofs.OneNumeral.{Needed, numeral_same}
use Rattle.mils.specs.Position.{Form, point, hundredths_limit, named_by, position_text}
use Rattle.mils.proofs.FormLaws.{Formed, joined_length, joined_named, joined_formed, formed_form, form_formed, form_named, named_small}

pub text_length : (h : ℕ) → length (position_text h) ≡ length (digits (h / 100)) + 3
unfolding position_text
text_length h = joined_length (digits (h / 100)) (zero_digit + h / 10 % 10) (zero_digit + h % 10)

-- the digits of the whole mils
numeral : (n : ℕ) → n < 10 ^ 5 → (1 ≤ length (digits n)) × (length (digits n) ≤ 5) × Needed (digits n)
numeral n m = elim (dec_lt n 10) [
  | yes a ↦ let e = digits_places 0 digits_most n (omega arith) (λ z. absurd (omega arith)) (omega arith) in (omega arith, omega arith, λ z. absurd (omega arith))
  | no a ↦ let f = digits_first digits_most n (omega arith) (omega arith) in (f.0, digits_by_below 5 digits_most n (omega arith) (omega arith), λ z g. omega (arith, f.1))
]

module _ (h : ℕ) (l : h < hundredths_limit) where
  pub text_formed : Formed (position_text h)
  unfolding position_text
  text_formed =
      let p = numeral (h / 100) (omega arith) in
      joined_formed (digits (h / 100)) (zero_digit + h / 10 % 10) (zero_digit + h % 10) p.0 p.1 p.2 (digits_only_lem digits_most (h / 100))
      (digit_is (h / 10 % 10) (omega arith)) (digit_is (h % 10) (omega arith))

  pub text_named : named_by (position_text h) ≡ h
  unfolding position_text
  text_named =
      let d = digits (h / 100) in
      omega (arith, joined_named d (zero_digit + h / 10 % 10) (zero_digit + h % 10), digits_value digits_most (h / 100) (omega arith))

pub form_same : (s t : List ℕ) → Form s → Form t → named_by s ≡ named_by t → s ≡ t
form_same s t f g e =
    let a = digit_low f.tenth f.digit_tenth in
    let b = digit_high f.tenth f.digit_tenth in
    let c = digit_low f.hundredth f.digit_hundredth in
    let d = digit_high f.hundredth f.digit_hundredth in
    let i = digit_low g.tenth g.digit_tenth in
    let j = digit_high g.tenth g.digit_tenth in
    let k = digit_low g.hundredth g.digit_hundredth in
    let l = digit_high g.hundredth g.digit_hundredth in
    let n = form_named s f in
    let m = form_named t g in
    let w : value_from 0 f.whole ≡ value_from 0 g.whole = omega arith in
    let x : f.tenth ≡ g.tenth = omega arith in
    let y : f.hundredth ≡ g.hundredth = omega arith in
    let z = numeral_same f.whole g.whole f.one g.one f.needed g.needed f.digits_whole g.digits_whole w in
    f.parts ∙ (ap₂ (λ (p q : List ℕ). p ++ (point ∷ q)) z (ap₂ (λ (p q : ℕ). p ∷ q ∷ []) x y) ∙ sym g.parts)

pub form_text : (text : List ℕ) → Form text → text ≡ position_text (named_by text)
form_text text f =
    let l = named_small text (form_formed text f) in
    form_same text (position_text (named_by text)) f (formed_form (position_text (named_by text)) (text_formed (named_by text) l)) (sym (text_named (named_by text) l))
