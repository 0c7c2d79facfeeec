-- A number has one way to be written: digits with no needless zero ahead, read as the same number, are the same digits.
--     value_same      digits of one length
--     Needed          no zero ahead of other digits
--     numeral_same    digits of any lengths, without one
use mathlib.Core.Path.{◌≡◌, refl, ap₂}
use mathlib.Core.Bool.{true}
use mathlib.Core.List.{List, [], ◌∷◌}
use Prim.Native.Nat.{ℕ, zero, suc, ◌+◌, ◌-◌, ◌*◌, ◌≤◌, ◌<◌}
use native.Mathlib.Decide.{dec_lt}
use native.Mathlib.Omega.{arith}
use lib.ListN.{length, get_or}
use Rattle.decimal.specs.Value.{zero_digit, digits_only, value_from}
use Rattle.decimal.specs.Nines.{nines}
use Rattle.decimal.proofs.ValueLaws.{digit_low, digit_high, both_digits, value_most}

pub value_same : (xs ys : List ℕ) (v u : ℕ) → length xs ≡ length ys → digits_only xs ≡ true → digits_only ys ≡ true →
    value_from v xs ≡ value_from u ys → (v ≡ u) × (xs ≡ ys)
unfolding value_from
value_same [] [] v u l o p e = (e, refl)
value_same [] (y ∷ ys) v u l o p e = absurd (omega arith)
value_same (x ∷ xs) [] v u l o p e = absurd (omega arith)
value_same (x ∷ xs) (y ∷ ys) v u l o p e =
    let a = both_digits x xs o in
    let b = both_digits y ys p in
    last (digit_low x a.0) (digit_high x a.0) (digit_low y b.0) (digit_high y b.0)
    (value_same xs ys (v * 10 + (x - zero_digit)) (u * 10 + (y - zero_digit)) (omega arith) a.1 b.1 e)
  where
    last : 48 ≤ x → x ≤ 57 → 48 ≤ y → y ≤ 57 → (v * 10 + (x - zero_digit) ≡ u * 10 + (y - zero_digit)) × (xs ≡ ys) → (v ≡ u) × (x ∷ xs ≡ y ∷ ys)
    last a b c d r =
        let q = r.0 in
        let i : x ≡ y = omega arith in
        (omega arith, ap₂ ◌∷◌ i r.1)

-- the number v with k zeros written behind it
unfoldable zeros : ℕ → ℕ → ℕ
zeros v zero = v
zeros v (suc k) = zeros (v * 10) k

zeros_most : (k v : ℕ) → v ≤ zeros v k
unfolding zeros
zeros_most zero v = omega arith
zeros_most (suc k) v = omega (arith, zeros_most k (v * 10))

zeros_grow : (j k u v : ℕ) → j ≤ k → u ≤ v → zeros u j ≤ zeros v k
unfolding zeros
zeros_grow zero k u v h g = omega (arith, zeros_most k v)
zeros_grow (suc j) zero u v h g = absurd (omega arith)
zeros_grow (suc j) (suc k) u v h g = zeros_grow j k (u * 10) (v * 10) (omega arith) (omega arith)

value_least : (bs : List ℕ) (v : ℕ) → zeros v (length bs) ≤ value_from v bs
unfolding zeros value_from
value_least [] v = omega arith
value_least (b ∷ bs) v =
    let w = v * 10 + (b - zero_digit) in
    omega (arith, value_least bs w, zeros_grow (length bs) (length bs) (v * 10) w (omega arith) (omega arith))

nines_below : (k v : ℕ) → nines v k < zeros (v + 1) k
unfolding zeros nines
nines_below zero v = omega arith
nines_below (suc k) v = let e : (v + 1) * 10 ≡ v * 10 + 9 + 1 = omega arith in rw e (nines_below k (v * 10 + 9))

-- digits that begin with no 0 make a larger number than any fewer digits
longer : (xs ys : List ℕ) → length xs < length ys → zero_digit < get_or ys 0 0 → digits_only xs ≡ true → value_from 0 xs < value_from 0 ys
unfolding value_from
longer xs [] l z o = absurd (omega arith)
longer xs (y ∷ ys) l z o =
    let w = 0 * 10 + (y - zero_digit) in
    omega (
      arith,
      value_most xs 0 o,
      nines_below (length xs) 0,
      zeros_grow (length xs) (length ys) (0 + 1) w (omega arith) (omega arith),
      value_least ys w,
    )

abbrev pub Needed : List ℕ → Type 0
Needed xs = 1 < length xs → get_or xs 0 0 ≡ zero_digit → ⊥

first_digit : (xs : List ℕ) → 0 < length xs → digits_only xs ≡ true → zero_digit ≤ get_or xs 0 0
first_digit [] p o = absurd (omega arith)
first_digit (x ∷ xs) p o = digit_low x (both_digits x xs o).0

first_above : (xs : List ℕ) → 1 < length xs → digits_only xs ≡ true → Needed xs → zero_digit < get_or xs 0 0
first_above xs l o n = elim (dec_lt zero_digit (get_or xs 0 0)) [
  | yes g ↦ g
  | no g ↦ absurd (n l (omega (arith, first_digit xs (omega arith) o)))
]

pub numeral_same : (xs ys : List ℕ) → 1 ≤ length xs → 1 ≤ length ys → Needed xs → Needed ys → digits_only xs ≡ true → digits_only ys ≡ true →
    value_from 0 xs ≡ value_from 0 ys → xs ≡ ys
numeral_same xs ys a b n m o p e = (value_same xs ys 0 0 alike o p e).1
  where
    alike : length xs ≡ length ys
    alike = elim (dec_lt (length xs) (length ys)) [
      | yes l ↦ absurd (omega (arith, longer xs ys l (first_above ys (omega arith) p m) o))
      | no l ↦ elim (dec_lt (length ys) (length xs)) [
        | yes k ↦ absurd (omega (arith, longer ys xs k (first_above xs (omega arith) o n) p))
        | no k ↦ omega arith
      ]
    ]
