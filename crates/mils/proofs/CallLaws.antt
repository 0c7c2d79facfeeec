-- Laws of the calls on positions in mils.
--     pixel_of_refused, pixel_of_formless, pixel_of_off, pixel_of_on    the pixel of a text, by how its checks end
--     pixel_asked_passed      what passes 1 and 31; pixelAsked-small, on every bed
--     hundredths_of_refused, hundredths_of_found    the number, by how they end
--     position_put           the text of a position, put in four parts
--     text_of_refused, text_of_few, text_of_done     the text, by how its checks end
use mathlib.Core.Path.{◌≡◌, sym, ap, ◌∙◌}
use mathlib.Core.Bool.{true, false}
use mathlib.Core.List.{List, [], ◌∷◌, ◌++◌}
use Prim.Native.Nat.{ℕ, ◌+◌, ◌/◌, ◌%◌, ◌^◌, ◌≤◌, ◌<◌}
use native.Mathlib.Omega.{arith}
use borrow.Author.Tests.{le-ltb, lt-ltb}
use lib.ListN.{length, drop}
use Rattle.basics.proofs.Tests.{test_leb}
use Rattle.refusal.specs.Refusal.{accepted, bytes_too_few, position_invalid}
use Rattle.refusal.specs.Checks.{After, must}
use Rattle.refusal.proofs.CheckLaws.{must_on, must_off, else_on, else_off, else_inv, unless_on, unless_off}
use Rattle.tile.specs.Tile.{highest_order}
use Rattle.text.specs.PutAt.{PutAt}
use Rattle.text.specs.Puts.{Puts}
use Rattle.text.specs.declared.Writer.{Writer}
use Rattle.text.proofs.PutAtLaws.{puts_then}
use Rattle.decimal.specs.Decimal.{digits}
use Rattle.decimal.specs.Value.{zero_digit}
use Rattle.checks.specs.Asked.{order_check}
use Rattle.checks.proofs.AskedLaws.{order_passed, coordinate_passed}
use Rattle.mils.specs.declared.PixelAnswer.{PixelAnswer}
use Rattle.mils.specs.declared.HundredthsAnswer.{HundredthsAnswer}
use Rattle.mils.specs.declared.TextAnswer.{TextAnswer}
use Rattle.mils.specs.Mils.{pixel_at, smallest_in}
use Rattle.mils.specs.Position.{point, well_formed, named_by, position_text}
use Rattle.mils.specs.Calls.{pixel_answer, position_asked, pixel_of, hundredths_answer, pixel_asked, hundredths_of, text_answer, text_asked, text_of}
use Rattle.mils.proofs.MilsLaws.{side_most}

module _ (n : ℕ) (text : List ℕ) where
  refused_by : (r : ℕ) → position_asked n text ≡ r → (r ≡ accepted → ⊥) → pixel_answer r 0 ≡ pixel_of n text
  unfolding pixel_of
  refused_by r e h = sym (unless_off {A = PixelAnswer} (position_asked n text) _ _ (λ z. h (sym e ∙ z)) ∙ ap (λ (x : ℕ). pixel_answer x 0) e)

  pub pixel_of_refused : (r : ℕ) → r ≡ order_check n → (r ≡ accepted → ⊥) → pixel_answer r 0 ≡ pixel_of n text
  unfolding position_asked
  pixel_of_refused r e h = refused_by r (else_off (order_check n) _ (λ z. h (e ∙ z)) ∙ sym e) h

  module _ (o : order_check n ≡ accepted) where
    pub pixel_of_formless : well_formed text ≡ false → pixel_answer position_invalid 0 ≡ pixel_of n text
    unfolding position_asked must
    pixel_of_formless f = refused_by position_invalid (else_on (order_check n) _ o ∙ simp f) (λ z. omega arith)

    module _ (f : well_formed text ≡ true) (p : ℕ) (e : p ≡ pixel_at (named_by text)) where
      pub pixel_of_off : 2 ^ n ≤ p → pixel_answer position_invalid 0 ≡ pixel_of n text
      unfolding position_asked must
      pixel_of_off b =
          refused_by position_invalid (else_on (order_check n) _ o ∙ simp (f, le-ltb (pixel_at (named_by text)) (2 ^ n) (rw e at b))) (λ z. omega arith)

      pub pixel_of_on : p < 2 ^ n → pixel_answer accepted p ≡ pixel_of n text
      unfolding pixel_of position_asked must
      pixel_of_on b =
          rw e (sym (unless_on {A = PixelAnswer} (position_asked n text) _ _
          (else_on (order_check n) _ o ∙ simp (f, lt-ltb (pixel_at (named_by text)) (2 ^ n) (rw e at b)))))

module _ (n p : ℕ) where
  pub pixel_asked_passed : pixel_asked n p ≡ accepted → (n ≤ highest_order) × (p < 2 ^ n)
  unfolding pixel_asked
  pixel_asked_passed e =
      let a = else_inv _ _ e in
      (order_passed n a.0, coordinate_passed n p a.1)

  pub pixel_asked_small : pixel_asked n p ≡ accepted → p < 2 ^ highest_order
  pixel_asked_small e = let a = pixel_asked_passed e in omega (arith, a.1, side_most n a.0)

  pub hundredths_of_refused : (r : ℕ) → r ≡ pixel_asked n p → (r ≡ accepted → ⊥) → hundredths_answer r 0 ≡ hundredths_of n p
  unfolding hundredths_of
  hundredths_of_refused r e h = rw (← e) (sym (unless_off {A = HundredthsAnswer} r _ _ h))

  pub hundredths_of_found : (r x : ℕ) → r ≡ pixel_asked n p → r ≡ accepted → x ≡ smallest_in p → hundredths_answer accepted x ≡ hundredths_of n p
  unfolding hundredths_of
  hundredths_of_found r x e h i = rw i (sym (unless_on {A = HundredthsAnswer} (pixel_asked n p) _ _ (sym e ∙ h)))

pub position_put : (h : ℕ) {x y : ℕ} {old one two three new : Writer} → x ≡ zero_digit + h / 10 % 10 → y ≡ zero_digit + h % 10 →
    Puts (digits (h / 100)) old one → Puts (point ∷ []) one two → Puts (x ∷ []) two three → Puts (y ∷ []) three new →
    Puts (position_text h) old new
unfolding position_text
position_put h j k s t u v = puts_then s (puts_then t (puts_then (rw j at u) (rw k at v)))

module _ (n p : ℕ) (out : List ℕ) {r : ℕ} (s : r ≡ pixel_asked n p) where
  pub text_of_refused : (r ≡ accepted → ⊥) → text_answer r 0 out ≡ text_of n p out
  unfolding text_of text_asked
  text_of_refused f = sym (unless_off {A = After TextAnswer} (text_asked n p out) _ _ (λ z. f (s ∙ sym check ∙ z)) ∙ ap (λ (x : ℕ). text_answer x 0 out) (check ∙ sym s))
    where
      check : text_asked n p out ≡ pixel_asked n p
      check = else_off (pixel_asked n p) _ (λ z. f (s ∙ z))

  module _ (z : r ≡ accepted) {h : ℕ} (i : h ≡ smallest_in p) where
    pub text_of_few : {l : ℕ} → l ≡ length (position_text h) → length out < l → text_answer bytes_too_few 0 out ≡ text_of n p out
    unfolding text_of text_asked
    text_of_few {l} e g = sym (unless_off {A = After TextAnswer} (text_asked n p out) _ _ (λ y. omega (arith, sym y ∙ check)) ∙ ap (λ (x : ℕ). text_answer x 0 out) check)
      where
        check : text_asked n p out ≡ bytes_too_few
        check = else_on (pixel_asked n p) _ (sym s ∙ z) ∙ must_off _ _ (test_leb (length (position_text (smallest_in p))) (length out)) (λ k. omega (arith, rw i at e))

    pub text_of_done : {l end : ℕ} {new : List ℕ} → l ≡ length (position_text h) → l ≤ length out → PutAt (position_text h) 0 out end new → text_answer accepted end new ≡ text_of n p out
    unfolding text_of text_asked
    text_of_done {l} {end} {new} e g w =
        ap (λ (x : ℕ). text_answer accepted x new) a
        ∙ ap (text_answer accepted (length (position_text (smallest_in p)))) b
        ∙ sym (unless_on {A = After TextAnswer} (text_asked n p out) _ _ check)
      where
        check : text_asked n p out ≡ accepted
        check = else_on (pixel_asked n p) _ (sym s ∙ z) ∙ must_on _ _ (test_leb (length (position_text (smallest_in p))) (length out)) (omega (arith, rw i at e))

        a : end ≡ length (position_text (smallest_in p))
        a = let g : end ≡ 0 + length (position_text (smallest_in p)) = rw i at w.stop in omega arith

        b : new ≡ position_text (smallest_in p) ++ drop (length (position_text (smallest_in p))) out
        b = rw (a, i) at (w.put (omega (arith, w.stop)))
