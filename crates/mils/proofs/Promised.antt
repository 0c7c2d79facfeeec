-- The promises on positions in mils, proved.
--     floors, ceilings, spans, fits, forms, texts, positions, there_and_back, alike, refusals    as stated in `Promises`
use mathlib.Core.Path.{◌≡◌, refl, sym, ◌∙◌}
use mathlib.Core.List.{List, ◌++◌}
use Prim.Native.Nat.{ℕ, ◌^◌, ◌≤◌, ◌<◌}
use native.Mathlib.Omega.{arith}
use lib.ListN.{length, drop}
use lib.Seq.{take-append_seam, drop-append_seam}
use Rattle.basics.proofs.Tests.{test_leb}
use Rattle.refusal.specs.Refusal.{accepted, order_too_large, point_outside, position_invalid}
use Rattle.refusal.specs.Checks.{After}
use Rattle.refusal.proofs.CheckLaws.{must_on, else_on, else_off, unless_on, unless_number}
use Rattle.tile.specs.Tile.{highest_order}
use Rattle.checks.proofs.AskedLaws.{order_inside, order_refused, coordinate_inside, coordinate_outside}
use Rattle.mils.specs.declared.HundredthsAnswer.{HundredthsAnswer}
use Rattle.mils.specs.declared.TextAnswer.{TextAnswer}
use Rattle.mils.specs.Mils.{pixel_at, smallest_in}
use Rattle.mils.specs.Position.{Form, named_by, position_text}
use Rattle.mils.specs.Calls.{pixel_answer, pixel_of, hundredths_answer, pixel_asked, hundredths_of, text_answer, text_asked, text_of}
use Rattle.mils.specs.Promises.{Floors, Ceilings, Spans, Fits, Forms, Texts, Lies, Positions, ThereAndBack, Alike, Refusals}
use Rattle.mils.proofs.MilsLaws.{smallest_of, side_most, smallest_most, smallest_limit}
use Rattle.mils.proofs.FormLaws.{formed, well, not_formed, form_formed, formed_form, form_named, named_small}
use Rattle.mils.proofs.TextLaws.{text_formed, text_named, form_text}
use Rattle.mils.proofs.CallLaws.{pixel_of_refused, pixel_of_formless, pixel_of_off, pixel_of_on, hundredths_of_refused, hundredths_of_found, text_of_refused, text_of_few}

pub floors : Floors
unfolding Floors
floors h p = (λ e. (omega arith, omega arith), λ b. omega (arith, b.0, b.1))

pub ceilings : Ceilings
unfolding Ceilings
ceilings p h = (λ e. (omega arith, omega arith), λ b. omega (arith, b.0, b.1))

pub spans : Spans
unfolding Spans
spans h p = (λ e. (omega arith, omega arith), λ b. omega (arith, b.0, b.1))

pub fits : Fits
fits = record { there = λ h l. omega arith; back = λ p l. omega arith }

pub forms : Forms
unfolding Forms
forms text = record {
  tested = (λ e. formed_form text (formed text e), λ f. well text (form_formed text f));
  value = λ f. omega (arith, form_named text f);
}

pub texts : Texts
texts = record {
  formed = λ h l. formed_form (position_text h) (text_formed h (omega arith));
  read = text_named;
  small = λ text f. omega (arith, named_small text (form_formed text f));
  only = form_text;
}

module _ (n : ℕ) (text : List ℕ) (o : n ≤ highest_order) (f : Form text) (p : ℕ) (l : Lies (named_by text) p) where
  lies : p ≡ pixel_at (named_by text)
  lies = omega (arith, l.0, l.1)

  pub on : p < 2 ^ n → pixel_of n text ≡ pixel_answer accepted p
  on b = sym (pixel_of_on n text (order_inside n o) (well text (form_formed text f)) p lies b)

  off : 2 ^ n ≤ p → pixel_of n text ≡ pixel_answer position_invalid 0
  off b = sym (pixel_of_off n text (order_inside n o) (well text (form_formed text f)) p lies b)

pub positions : Positions
unfolding Positions
positions n text o = record {
  on = λ f p l b. on n text o f p l (omega arith);
  off = λ f p l b. off n text o f p l (omega arith);
  other = λ f. sym (pixel_of_formless n text (order_inside n o) (sym (not_formed text (λ g. f (formed_form text g)))));
}

module _ (n p : ℕ) where
  number : (hundredths_of n p).number ≡ pixel_asked n p
  unfolding hundredths_of
  number = unless_number (λ (x : HundredthsAnswer). x.number) (pixel_asked n p) (λ x. refl) refl

  found : pixel_asked n p ≡ accepted → hundredths_of n p ≡ hundredths_answer accepted (smallest_in p)
  found e = sym (hundredths_of_found n p _ _ refl e refl)

module _ (n p : ℕ) (o : n ≤ highest_order) (q : p < 2 ^ n) where
  asked : pixel_asked n p ≡ accepted
  unfolding pixel_asked
  asked = else_on _ _ (order_inside n o) ∙ sym (coordinate_inside n p q)

  again : pixel_of n (position_text (smallest_in p)) ≡ pixel_answer accepted p
  again =
      let s = smallest_in p in
      let m = smallest_limit n p o q in
      on n (position_text s) o (texts.formed s m) p (rw (text_named s m) (omega arith, omega arith)) q

pub there_and_back : ThereAndBack
unfolding ThereAndBack
there_and_back n p o q =
    let f = found n p (asked n p o q) in
    let t = text_formed (smallest_in p) (smallest_limit n p o q) in
    record {
      accepts = rw f refl;
      smallest = rw f (smallest_of p);
      again = rw f (again n p o q);
      most = rw f (omega (arith, smallest_most p (omega (arith, side_most n o))));
      bytes = rw f (omega (arith, t.short), omega (arith, t.long));
    }

puts : (n p : ℕ) (out : List ℕ) → pixel_asked n p ≡ accepted → length (position_text (smallest_in p)) ≤ length out → text_of n p out
    ≡ text_answer accepted (length (position_text (smallest_in p))) (position_text (smallest_in p) ++ drop (length (position_text (smallest_in p))) out)
unfolding text_of text_asked
puts n p out e l =
    unless_on {A = After TextAnswer} (text_asked n p out) _ _
    (else_on (pixel_asked n p) _ e ∙ must_on _ _ (test_leb (length (position_text (smallest_in p))) (length out)) l)

pub alike : Alike
unfolding Alike
alike n p out =
    let s = position_text (smallest_in p) in
    let e = number n p in
    record {
      refused = λ f. sym (text_of_refused n p out e f);
      few = λ a. rw (found n p (sym e ∙ a)) (λ l. sym (text_of_few n p out refl (sym e ∙ a) refl refl l));
      put = λ a. rw (found n p (sym e ∙ a)) (λ l. rw (puts n p out (sym e ∙ a) l)
          (refl, take-append_seam s (drop (length s) out), drop-append_seam s (drop (length s) out)));
    }

pub refusals : Refusals
unfolding pixel_asked
refusals = record {
  order = λ n text h. sym (pixel_of_refused n text order_too_large (order_refused n h) (λ z. omega arith));
  order_back = λ n p h. sym (hundredths_of_refused n p order_too_large (order_refused n h ∙ sym (else_off _ _ (λ z. omega (arith, order_refused n h)))) (λ z. omega arith));
  outside = λ n p o h. sym (hundredths_of_refused n p point_outside (coordinate_outside n p h ∙ sym (else_on _ _ (order_inside n o))) (λ z. omega arith));
}
