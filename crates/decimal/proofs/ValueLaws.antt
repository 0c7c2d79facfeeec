-- Laws of digits read one after the other.
--     digit_low, digit_high      where a digit's byte lies; digit-is, it is one
--     both_digits                a digit ahead of digits only, taken apart
--     only_all                   asked of each byte of a list
--     value_end, value_next      the number with the bytes from a place on written behind it
--     nines_grow, -most, -longer, -step    numbers with nines behind them
--     value_most                 no digits make a larger number than nines
--     NextDigit                  what one more byte does to the number read; next-digit
use mathlib.Core.Path.{◌≡◌, refl, sym, ◌∙◌}
use mathlib.Core.Bool.{Bool, true, false, ◌&&◌}
use mathlib.Core.List.{List, [], ◌∷◌}
use Prim.Native.Nat.{ℕ, zero, suc, ◌+◌, ◌-◌, ◌*◌, ◌≤◌, ◌<◌}
use native.Mathlib.Omega.{arith}
use native.Mathlib.Numerals.{add-one}
use lib.ListN.{length, drop, get_or, drop_of_length-le}
use lib.Seq.{drop-cons}
use borrow.Author.Tests.{le-leb}
use Rattle.std.specs.List.{list_all}
use Rattle.std.specs.Char.{is_ascii_digit}
use Rattle.basics.proofs.Tests.{Test, test_leb, test_and, told_true}
use Rattle.decimal.specs.Value.{zero_digit, nine_digit, is_digit, digits_only, value_from}
use Rattle.decimal.specs.Nines.{nines}

test_digit : (b : ℕ) → Test ((zero_digit ≤ b) × (b ≤ nine_digit)) (is_digit b)
unfolding is_digit
test_digit b = test_and (test_leb zero_digit b) (test_leb b nine_digit)

pub digit_low : (b : ℕ) → is_digit b ≡ true → zero_digit ≤ b
digit_low b e = (told_true (test_digit b) e).0

pub digit_high : (b : ℕ) → is_digit b ≡ true → b ≤ nine_digit
digit_high b e = (told_true (test_digit b) e).1

pub digit_is : (d : ℕ) → d ≤ 9 → is_digit (zero_digit + d) ≡ true
unfolding is_digit
digit_is d h = simp (le-leb zero_digit (zero_digit + d) (omega arith), le-leb (zero_digit + d) nine_digit (omega arith))

both : (a b : Bool) → a && b ≡ true → (a ≡ true) × (b ≡ true)
both true b e = (refl, e)
both false b e = absurd (let z : ◌≡◌ {A = ℕ} 0 1 = cc in omega arith)

pub both_digits : (b : ℕ) (bs : List ℕ) → digits_only (b ∷ bs) ≡ true → (is_digit b ≡ true) × (digits_only bs ≡ true)
unfolding digits_only
both_digits b bs e = both (is_digit b) (digits_only bs) e

pub only_all : (bs : List ℕ) → list_all is_ascii_digit bs ≡ digits_only bs
unfolding digits_only is_digit
only_all [] = refl
only_all (b ∷ bs) = rw (only_all bs) refl

module _ (bs : List ℕ) (i : ℕ) where
  pub value_end : (v : ℕ) → length bs ≤ i → value_from v (drop i bs) ≡ v
  unfolding value_from
  value_end v h = rw (drop_of_length-le bs h) refl

  module _ (h : i < length bs) where
    only_at : digits_only (drop i bs) ≡ is_digit (get_or bs i 0) && digits_only (drop (i + 1) bs)
    unfolding digits_only
    only_at = rw (add-one i, drop-cons bs i 0 h) refl

    pub only_both : digits_only (drop i bs) ≡ true → (is_digit (get_or bs i 0) ≡ true) × (digits_only (drop (i + 1) bs) ≡ true)
    only_both e = both (is_digit (get_or bs i 0)) (digits_only (drop (i + 1) bs)) (sym only_at ∙ e)

    pub value_next : (v : ℕ) → value_from v (drop i bs) ≡ value_from (v * 10 + (get_or bs i 0 - zero_digit)) (drop (i + 1) bs)
    unfolding value_from
    value_next v = rw (add-one i, drop-cons bs i 0 h) refl

pub nines_grow : (k u v : ℕ) → u ≤ v → nines u k ≤ nines v k
unfolding nines
nines_grow zero u v h = h
nines_grow (suc k) u v h = nines_grow k (u * 10 + 9) (v * 10 + 9) (omega arith)

pub nines_most : (k v : ℕ) → v ≤ nines v k
unfolding nines
nines_most zero v = omega arith
nines_most (suc k) v = omega (arith, nines_most k (v * 10 + 9))

pub nines_longer : (j k v : ℕ) → j ≤ k → nines v j ≤ nines v k
unfolding nines
nines_longer zero k v h = nines_most k v
nines_longer (suc j) zero v h = absurd (omega arith)
nines_longer (suc j) (suc k) v h = nines_longer j k (v * 10 + 9) (omega arith)

nines_step : (k m v d : ℕ) → k ≡ m + 1 → d ≤ 9 → nines (v * 10 + d) m ≤ nines v k
unfolding nines
nines_step zero m v d e h = absurd (omega arith)
nines_step (suc k) m v d e h = let g : m ≡ k = omega arith in rw g (nines_grow k (v * 10 + d) (v * 10 + 9) (omega arith))

pub value_most : (bs : List ℕ) (v : ℕ) → digits_only bs ≡ true → value_from v bs ≤ nines v (length bs)
unfolding value_from nines
value_most [] v e = omega arith
value_most (b ∷ bs) v e =
    let d = both_digits b bs e in
    omega (
      arith,
      digit_high b d.0,
      value_most bs (v * 10 + (b - zero_digit)) d.1,
      nines_grow (length bs) (v * 10 + (b - zero_digit)) (v * 10 + 9) (omega (arith, digit_high b d.0)),
    )

-- the byte at i is a digit, so are those behind it, and with that digit's number d behind it v stays as small as it may be
pub record NextDigit (bs : List ℕ) (i v d : ℕ) : Type 0 where
  pub digit : is_digit (get_or bs i 0) ≡ true
  pub rest : digits_only (drop (i + 1) bs) ≡ true
  pub room : nines (v * 10 + d) (length bs - (i + 1)) ≤ nines v (length bs - i)
  pub small : v * 10 + d ≤ nines v (length bs - i)

pub next_digit : (bs : List ℕ) (i v d : ℕ) → i < length bs → digits_only (drop i bs) ≡ true → d ≡ get_or bs i 0 - zero_digit → NextDigit bs i v d
next_digit bs i v d h o e =
    let b = only_both bs i h o in
    let r = nines_step (length bs - i) (length bs - (i + 1)) v d (omega arith) (omega (arith, digit_high (get_or bs i 0) b.0)) in
    record { digit = b.0; rest = b.1; room = r; small = omega (arith, nines_most (length bs - (i + 1)) (v * 10 + d)) }
