-- Spread numbers: a column's bits at the even places, the Morton number of that column in row 0.
--     spread_rises     a larger number is larger when spread
--     spread_lt        and only a larger one is
--     spread_same      numbers that are the same when spread are the same
--     column_bits      the bits of a Morton number at the even places are its column, spread
--     row_bits         those at the odd places are its row, spread one place higher
use mathlib.Core.Path.{◌≡◌, ap}
use Prim.Native.Nat.{ℕ, zero, suc, ◌+◌, ◌*◌, ◌/◌, ◌%◌, ◌^◌, ◌<◌}
use native.Mathlib.Decide.{dec_lt}
use native.Mathlib.Nat.{mod-lt, div-add-mod'}
use native.Mathlib.Omega.{arith}
use lib.Bits.{bit_and, and_block, and_zero_r}
use Rattle.morton.specs.Morton.{morton, column, row, side_bits}
use Rattle.morton.proofs.MortonLaws.{row_column}
use Rattle.morton.proofs.Masks.{evens_column}

pub spread_rises : (n x y : ℕ) → y < 2 ^ n → x < y → morton n x 0 < morton n y 0
unfolding morton
spread_rises zero x y h l = absurd (omega arith)
spread_rises (suc n) x y h l = elim (dec_lt (x / 2) (y / 2)) [
  | yes g ↦ omega (arith, spread_rises n (x / 2) (y / 2) (omega arith) g)
  | no g ↦ let e : x / 2 ≡ y / 2 = omega arith in omega (arith, ap (λ (q : ℕ). morton n q 0) e)
]

module _ (n x y : ℕ) (h : x < 2 ^ n) (g : y < 2 ^ n) where
  pub spread_lt : morton n x 0 < morton n y 0 → x < y
  spread_lt l = elim (dec_lt x y) [
    | yes p ↦ p
    | no p ↦ elim (dec_lt y x) [
      | yes q ↦ absurd (omega (arith, spread_rises n y x h q))
      | no q ↦ let e : x ≡ y = omega arith in absurd (omega (arith, ap (λ (q : ℕ). morton n q 0) e))
    ]
  ]

  pub spread_same : morton n x 0 ≡ morton n y 0 → x ≡ y
  spread_same e = elim (dec_lt x y) [
    | yes p ↦ absurd (omega (arith, spread_rises n x y g p))
    | no p ↦ elim (dec_lt y x) [ yes q ↦ absurd (omega (arith, spread_rises n y x h q)) | no q ↦ omega arith ]
  ]

pub column_bits : (z : ℕ) → bit_and z 0x55555 ≡ morton side_bits (column side_bits z) 0
column_bits z = evens_column side_bits z

pub row_bits : (z : ℕ) → bit_and z 0xaaaaa ≡ 2 * morton side_bits (row side_bits z) 0
row_bits z =
    let b = and_block 1 (z / 2) 0x55555 (z % 2) 0 (mod-lt z (omega arith)) (omega arith) in
    let e : bit_and z 0xaaaaa ≡ bit_and (z / 2) 0x55555 * 2 + bit_and (z % 2) 0 = rw (div-add-mod' z 2) at b in
    let f : morton side_bits (row side_bits z) 0 ≡ morton side_bits (column side_bits (z / 2)) 0 = ap (λ (r : ℕ). morton side_bits r 0) (row_column side_bits z) in
    omega (arith, e, and_zero_r (z % 2), column_bits (z / 2), f)
