-- Laws of Morton numbers, for columns and rows of any number n of bits.
--     morton_lt, column_lt, row_lt         what a bed of order n bounds
--     column_morton, row_morton            a Morton number has the column and the row it was made of
--     morton_column_row                    a Morton number is made of its column and row
--     morton_unique                        no two Morton numbers have the same column and row
--     column_zero, row_zero                the number 0 is the pixel in column 0, row 0
--     morton_wide, column_wide, row_wide   more bits than the bed has give the same
--     morton_low                           higher bits of column and row are dropped
--     morton_sum                           a Morton number is that of its column plus twice that of its row
--     row_column                           the row is the column of the half
-- Not here: blocks as squares of pixels (`Squares`).
use mathlib.Core.Path.{◌≡◌, refl, ap₂, sym, ◌∙◌}
use Prim.Native.Nat.{ℕ, zero, suc, ◌+◌, ◌*◌, ◌/◌, ◌%◌, ◌^◌, ◌≤◌, ◌<◌}
use native.Mathlib.Omega.{arith}
use native.Mathlib.Numerals.{add-one}
use lib.Pow.{field, mod-mod-pow}
use Rattle.morton.specs.Morton.{morton, column, row}

pub morton_lt : (n c r : ℕ) → morton n c r < 4 ^ n
unfolding morton
morton_lt zero c r = omega arith
morton_lt (suc n) c r = let ih = morton_lt n (c / 2) (r / 2) in omega arith

pub column_lt : (n z : ℕ) → column n z < 2 ^ n
unfolding column
column_lt zero z = omega arith
column_lt (suc n) z = let ih = column_lt n (z / 4) in omega arith

pub row_lt : (n z : ℕ) → row n z < 2 ^ n
unfolding row
row_lt zero z = omega arith
row_lt (suc n) z = let ih = row_lt n (z / 4) in omega arith

pub column_morton : (n c r : ℕ) → c < 2 ^ n → column n (morton n c r) ≡ c
unfolding morton column
column_morton zero c r h = omega arith
column_morton (suc n) c r h =
    let q : morton (suc n) c r / 4 ≡ morton n (c / 2) (r / 2) = omega arith in
    rw q (omega (arith, column_morton n (c / 2) (r / 2) (omega arith)))

pub row_morton : (n c r : ℕ) → r < 2 ^ n → row n (morton n c r) ≡ r
unfolding morton row
row_morton zero c r h = omega arith
row_morton (suc n) c r h =
    let q : morton (suc n) c r / 4 ≡ morton n (c / 2) (r / 2) = omega arith in
    let s : morton (suc n) c r / 2 ≡ 2 * morton n (c / 2) (r / 2) + r % 2 = omega arith in
    rw (q, s) (omega (arith, row_morton n (c / 2) (r / 2) (omega arith)))

pub morton_column_row : (n z : ℕ) → z < 4 ^ n → morton n (column n z) (row n z) ≡ z
unfolding morton column row
morton_column_row zero z h = omega arith
morton_column_row (suc n) z h =
    let e : column (suc n) z / 2 ≡ column n (z / 4) = omega arith in
    let g : row (suc n) z / 2 ≡ row n (z / 4) = omega arith in
    rw (e, g) (omega (arith, morton_column_row n (z / 4) (omega arith)))

pub morton_unique : (n y z : ℕ) → y < 4 ^ n → z < 4 ^ n → column n y ≡ column n z → row n y ≡ row n z → y ≡ z
morton_unique n y z h g p q = sym (morton_column_row n y h) ∙ ap₂ (morton n) p q ∙ morton_column_row n z g

morton_zero : (m : ℕ) → morton m 0 0 ≡ 0
unfolding morton
morton_zero zero = refl
morton_zero (suc m) = omega (arith, morton_zero m)

pub morton_wide : (n m c r : ℕ) → n ≤ m → c < 2 ^ n → r < 2 ^ n → morton m c r ≡ morton n c r
unfolding morton
morton_wide zero m c r h k l =
    let p : c ≡ 0 = omega arith in
    let q : r ≡ 0 = omega arith in
    rw (p, q) (morton_zero m)
morton_wide (suc n) zero c r h k l = absurd (omega arith)
morton_wide (suc n) (suc m) c r h k l = omega (arith, morton_wide n m (c / 2) (r / 2) (omega arith) (omega arith) (omega arith))

pub column_zero : (m : ℕ) → column m 0 ≡ 0
unfolding column
column_zero zero = refl
column_zero (suc m) = omega (arith, column_zero m)

pub row_zero : (m : ℕ) → row m 0 ≡ 0
unfolding row
row_zero zero = refl
row_zero (suc m) = omega (arith, row_zero m)

pub column_wide : (n m z : ℕ) → n ≤ m → z < 4 ^ n → column m z ≡ column n z
unfolding column
column_wide zero m z h l = let e : z ≡ 0 = omega arith in rw e (column_zero m)
column_wide (suc n) zero z h l = absurd (omega arith)
column_wide (suc n) (suc m) z h l = omega (arith, column_wide n m (z / 4) (omega arith) (omega arith))

pub row_wide : (n m z : ℕ) → n ≤ m → z < 4 ^ n → row m z ≡ row n z
unfolding row
row_wide zero m z h l = let e : z ≡ 0 = omega arith in rw e (row_zero m)
row_wide (suc n) zero z h l = absurd (omega arith)
row_wide (suc n) (suc m) z h l = omega (arith, row_wide n m (z / 4) (omega arith) (omega arith))

low_half : (n c : ℕ) → c % 2 ^ suc n / 2 ≡ c / 2 % 2 ^ n
low_half n c = rw (← add-one n) (field c n 1)

low_odd : (n c : ℕ) → c % 2 ^ suc n % 2 ≡ c % 2
low_odd n c = rw (← add-one n) (mod-mod-pow c n 1)

pub morton_low : (n c r : ℕ) → morton n (c % 2 ^ n) (r % 2 ^ n) ≡ morton n c r
unfolding morton
morton_low zero c r = refl
morton_low (suc n) c r = rw (low_half n c, low_half n r, low_odd n c, low_odd n r, morton_low n (c / 2) (r / 2))

pub morton_sum : (n c r : ℕ) → morton n c r ≡ morton n c 0 + 2 * morton n r 0
unfolding morton
morton_sum zero c r = refl
morton_sum (suc n) c r = omega (arith, morton_sum n (c / 2) (r / 2))

pub row_column : (n z : ℕ) → row n z ≡ column n (z / 2)
unfolding row column
row_column zero z = refl
row_column (suc n) z =
    let e : z / 2 / 4 ≡ z / 4 / 2 = omega arith in
    rw e (omega (arith, row_column n (z / 4)))
