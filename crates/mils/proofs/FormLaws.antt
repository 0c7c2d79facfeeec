-- Laws of the form of a text.
--     Formed text       what the test of the form asks, place by place; test-formed, formed, well
--     not_formed, formed_last    the test by how code goes through it
--     behind_of          the bytes behind the point, as code has them; decimals-part, they are the decimals
--     whole_length, decimals_length    how long the parts are
--     named_small       a text of the form names fewer hundredths than the limit
--     whole_fits, behind_fits, behind_digits, named_read    what code needs to read them
--     joined            a text put together of its parts, and the laws of one
--     form_formed, formed_form   place by place is the same as part by part
--     form_named        what a text names, by its parts
use mathlib.Core.Path.{◌≡◌, refl, sym, ap, ◌∙◌}
use mathlib.Core.Bool.{Bool, true, false}
use mathlib.Core.List.{List, [], ◌∷◌, ◌++◌}
use Prim.Native.Nat.{ℕ, suc, ◌+◌, ◌-◌, ◌*◌, ◌^◌, ◌≤◌, ◌<◌}
use native.Mathlib.Omega.{arith}
use lib.ListN.{length, take, drop, get_or, length-append, length-drop, get_or-append}
use lib.Seq.{take_all, take_at, drop-append-add, get_or_at, get_or-take, length-take-le, split_at}
use Rattle.basics.proofs.Tests.{Test, holds, fails, test_leb, test_eqb, test_and, test_not, test_map, test_alike, told_true, told_false}
use Rattle.decimal.specs.Value.{zero_digit, is_digit, digits_only, value_from}
use Rattle.decimal.specs.Nines.{nines}
use Rattle.decimal.proofs.ValueLaws.{both_digits, nines_longer, value_most}
use Rattle.decimal.proofs.DigitsValue.{value_append}
use Rattle.mils.specs.Position.{Form, point, shortest, longest, hundredths_limit, whole_of, decimals_of, needless_zero, well_formed, named_by}

abbrev pub behind_of : List ℕ → List ℕ
behind_of text = take (length text - (length text - 3 + 1)) (drop (length text - 3 + 1) text)

pub record Formed (text : List ℕ) : Type 0 where
  pub short : shortest ≤ length text
  pub long : length text ≤ longest
  pub pointed : get_or text (length text - 3) 0 ≡ point
  pub needed : (shortest < length text) × (get_or text 0 0 ≡ zero_digit) → ⊥
  pub whole : digits_only (whole_of text) ≡ true
  pub decimals : digits_only (decimals_of text) ≡ true

test_is : (b : Bool) → Test (b ≡ true) b
test_is true = holds refl
test_is false = fails (λ e. let z : ◌≡◌ {A = ℕ} 0 1 = cc in omega arith)

module _ (text : List ℕ) where
  test_needless : Test ((shortest < length text) × (get_or text 0 0 ≡ zero_digit)) (needless_zero (length text) (get_or text 0 0))
  unfolding needless_zero
  test_needless = test_and (test_leb (suc shortest) (length text)) (test_eqb (get_or text 0 0) zero_digit)

  pub test_formed : Test (Formed text) (well_formed text)
  unfolding well_formed
  test_formed =
      test_map
      (λ p. record { short = p.0.0.0.0.0; long = p.0.0.0.0.1; pointed = p.0.0.0.1; needed = p.0.0.1; whole = p.0.1; decimals = p.1 })
      (λ f. (((((f.short, f.long), f.pointed), f.needed), f.whole), f.decimals))
      (test_and
      (test_and
      (test_and (test_and (test_and (test_leb shortest (length text)) (test_leb (length text) longest)) (test_eqb (get_or text (length text - 3) 0) point))
      (test_not test_needless))
      (test_is (digits_only (whole_of text))))
      (test_is (digits_only (decimals_of text))))

  pub formed : well_formed text ≡ true → Formed text
  formed = told_true test_formed

  pub well : Formed text → well_formed text ≡ true
  well f = sym (test_alike (holds f) test_formed (λ g. g) (λ g. g))

  pub not_formed : (Formed text → ⊥) → false ≡ well_formed text
  not_formed f = test_alike (fails f) test_formed (λ g. g) (λ g. g)

  pub needless : needless_zero (length text) (get_or text 0 0) ≡ true → (shortest < length text) × (get_or text 0 0 ≡ zero_digit)
  needless = told_true test_needless

  pub decimals_part : shortest ≤ length text → behind_of text ≡ decimals_of text
  decimals_part h =
      let e : length text - 3 + 1 ≡ length text - 2 = omega arith in
      rw e (take_all (length text - (length text - 2)) (decimals_of text) (omega (arith, length-drop (length text - 2) text)))

  pub whole_length : shortest ≤ length text → length (whole_of text) ≡ length text - 3
  whole_length h = length-take-le (length text - 3) text (omega arith)

  pub decimals_length : shortest ≤ length text → length (decimals_of text) ≡ 2
  decimals_length h = length-drop (length text - 2) text ∙ omega arith

  -- all but the decimals is seen
  pub formed_last : shortest ≤ length text → length text ≤ longest → get_or text (length text - 3) 0 ≡ point →
      needless_zero (length text) (get_or text 0 0) ≡ false → digits_only (whole_of text) ≡ true → digits_only (behind_of text) ≡ well_formed text
  formed_last s l p z w =
      ap digits_only (decimals_part s)
      ∙ test_alike (test_is (digits_only (decimals_of text))) test_formed
      (λ d. record { short = s; long = l; pointed = p; needed = told_false test_needless z; whole = w; decimals = d }) (λ f. f.decimals)

  module _ (f : Formed text) where
    pub whole_fits : nines 0 (length (whole_of text)) < 10 ^ 5
    unfolding nines
    whole_fits = omega (arith, nines_longer (length (whole_of text)) 5 0 (omega (arith, whole_length f.short, f.long)))

    decimals_fit : nines (value_from 0 (whole_of text)) (length (decimals_of text)) < hundredths_limit
    unfolding nines
    decimals_fit = rw (decimals_length f.short) (omega (arith, whole_fits, value_most (whole_of text) 0 f.whole))

    -- the decimals written behind the whole mils
    named_behind : named_by text ≡ value_from (value_from 0 (whole_of text)) (decimals_of text)
    unfolding named_by
    named_behind = value_append (whole_of text) (decimals_of text) 0

    pub named_small : named_by text < hundredths_limit
    named_small = omega (arith, named_behind, decimals_fit, value_most (decimals_of text) (value_from 0 (whole_of text)) f.decimals)

    -- the whole mils are read; the decimals are left
    module _ {w : ℕ} (e : w ≡ value_from 0 (whole_of text)) where
      pub behind_fits : nines w (length (behind_of text)) < 2 ^ 32
      behind_fits = let d : nines w (length (behind_of text)) < hundredths_limit = rw (e, decimals_part f.short) decimals_fit in omega arith

      pub behind_digits : digits_only (behind_of text) ≡ true
      behind_digits = rw (decimals_part f.short) f.decimals

      pub named_read : {r : ℕ} → r ≡ value_from w (behind_of text) → (r ≡ named_by text) × (r < hundredths_limit)
      named_read {r} g = let i : r ≡ named_by text = rw (e, decimals_part f.short) at g ∙ sym named_behind in (i, omega (arith, named_small))

-- a text put together of its parts
module _ (d : List ℕ) (x y : ℕ) where
  abbrev pub joined : List ℕ
  joined = d ++ (point ∷ x ∷ y ∷ [])

  pub joined_length : length joined ≡ length d + 3
  joined_length = length-append d (point ∷ x ∷ y ∷ [])

  pub joined_whole : whole_of joined ≡ d
  joined_whole = take_at d (point ∷ x ∷ y ∷ []) (length joined - 3) (omega (arith, joined_length))

  pub joined_decimals : decimals_of joined ≡ x ∷ y ∷ []
  joined_decimals =
      let e : length joined - 2 ≡ length d + 1 = omega (arith, joined_length) in
      rw e (drop-append-add d (point ∷ x ∷ y ∷ []) 1)

  joined_point : get_or joined (length joined - 3) 0 ≡ point
  joined_point = get_or_at d point (x ∷ y ∷ []) 0 (length joined - 3) (omega (arith, joined_length))

  pub joined_named : named_by joined ≡ value_from 0 d * 100 + (x - zero_digit) * 10 + (y - zero_digit)
  unfolding named_by value_from
  joined_named = rw (joined_whole, joined_decimals, value_append d (x ∷ y ∷ []) 0) (omega arith)

  pub joined_formed : 1 ≤ length d → length d ≤ 5 → (1 < length d → get_or d 0 0 ≡ zero_digit → ⊥) → digits_only d ≡ true → is_digit x ≡ true →
      is_digit y ≡ true → Formed joined
  unfolding digits_only
  joined_formed l m z o p q = record {
    short = omega (arith, joined_length);
    long = omega (arith, joined_length);
    pointed = joined_point;
    needed = λ n. z (omega (arith, n.0, joined_length)) (sym (get_or-append d (point ∷ x ∷ y ∷ []) 0 0 (omega arith)) ∙ n.1);
    whole = rw joined_whole o;
    decimals = rw (joined_decimals, p, q) refl;
  }

two : (bs : List ℕ) → length bs ≡ 2 → bs ≡ get_or bs 0 0 ∷ get_or bs 1 0 ∷ []
two [] e = absurd (omega arith)
two (x ∷ []) e = absurd (omega arith)
two (x ∷ y ∷ []) e = refl
two (x ∷ y ∷ z ∷ bs) e = absurd (omega arith)

module _ (text : List ℕ) where
  pub form_formed : Form text → Formed text
  form_formed f =
      rw f.parts
      (joined_formed f.whole f.tenth f.hundredth (omega (arith, f.one)) (omega (arith, f.five)) f.needed f.digits_whole f.digit_tenth f.digit_hundredth)

  pub form_named : (f : Form text) → named_by text ≡ value_from 0 f.whole * 100 + (f.tenth - zero_digit) * 10 + (f.hundredth - zero_digit)
  form_named f = ap named_by f.parts ∙ joined_named f.whole f.tenth f.hundredth

  pub formed_form : Formed text → Form text
  unfolding digits_only
  formed_form f =
      let n = length text - 3 in
      let l = whole_length text f.short in
      let d = two (decimals_of text) (decimals_length text f.short) in
      let e : suc n ≡ length text - 2 = omega (arith, f.short) in
      let s : text ≡ whole_of text ++ (point ∷ decimals_of text) = split_at text n 0 (omega (arith, f.short)) ∙ rw (e, f.pointed) refl in
      let o = rw d at f.decimals in
      let a = both_digits (get_or (decimals_of text) 0 0) (get_or (decimals_of text) 1 0 ∷ []) o in
      record {
        whole = whole_of text;
        tenth = get_or (decimals_of text) 0 0;
        hundredth = get_or (decimals_of text) 1 0;
        parts = s ∙ ap (λ (x : List ℕ). whole_of text ++ (point ∷ x)) d;
        one = omega (arith, l, f.short);
        five = omega (arith, l, f.long);
        needed = λ m z. f.needed (omega (arith, l), sym (get_or-take n text 0 0 (omega (arith, l))) ∙ z);
        digits_whole = f.whole;
        digit_tenth = a.0;
        digit_hundredth = (both_digits (get_or (decimals_of text) 1 0) [] a.1).0;
      }
