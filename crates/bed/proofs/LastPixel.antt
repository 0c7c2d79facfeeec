-- The last pixel of a block of Morton numbers is the south-eastern pixel of its square.
--     column_last, row_last    its column and its row: the corner's, and 2 ^ k pixels on
use mathlib.Core.Path.{◌≡◌, refl, ap}
use Prim.Native.Nat.{ℕ, zero, suc, ◌+◌, ◌-◌, ◌*◌, ◌/◌, ◌%◌, ◌^◌, ◌≤◌}
use native.Mathlib.Omega.{arith}
use Rattle.morton.specs.Morton.{column, row}
use Rattle.morton.proofs.Squares.{column_block, row_block, column_corner, row_corner}
use Rattle.quadtree.proofs.Alignment.{area_pos}

-- the last pixel of a bed
last_column : (k : ℕ) → column k (4 ^ k - 1) + 1 ≡ 2 ^ k
unfolding column
last_column zero = refl
last_column (suc k) =
    let p = area_pos k in
    let e : (4 ^ suc k - 1) / 4 ≡ 4 ^ k - 1 = omega arith in
    omega (arith, last_column k, ap (column k) e)

last_row : (k : ℕ) → row k (4 ^ k - 1) + 1 ≡ 2 ^ k
unfolding row
last_row zero = refl
last_row (suc k) =
    let p = area_pos k in
    let e : (4 ^ suc k - 1) / 4 ≡ 4 ^ k - 1 = omega arith in
    let d : (4 ^ suc k - 1) / 2 ≡ 2 * (4 ^ k - 1) + 1 = omega arith in
    let o : (4 ^ suc k - 1) / 2 % 2 ≡ 1 = omega arith in
    omega (arith, last_row k, ap (row k) e)

module _ (n k q : ℕ) (h : k ≤ n) where
  place : q * 4 ^ k + (4 ^ k - 1) ≡ q * 4 ^ k + 4 ^ k - 1
  place = omega (arith, area_pos k)

  pub column_last : column n (q * 4 ^ k + 4 ^ k - 1) + 1 ≡ column n (q * 4 ^ k) + 2 ^ k
  column_last = omega (arith, rw place at (column_block n k q (4 ^ k - 1) h (omega (arith, area_pos k))), last_column k, column_corner n k q h)

  pub row_last : row n (q * 4 ^ k + 4 ^ k - 1) + 1 ≡ row n (q * 4 ^ k) + 2 ^ k
  row_last = omega (arith, rw place at (row_block n k q (4 ^ k - 1) h (omega (arith, area_pos k))), last_row k, row_corner n k q h)
