-- A block of Morton numbers is a square of pixels: the 4 ^ k numbers from a multiple of 4 ^ k on are those of a square of 2 ^ k by 2 ^ k pixels.
--     column_block, row_block       the column and the row of the number at d in the q-th block of size k
--     column_corner, row_corner     those of the block's corner: multiples of 2 ^ k
--     column_room, row_room         the square lies in the bed
--     block_square, square_block    a number lies in the block just if its pixel lies in the square
--     block_is_square               both, as an equivalence
--     square_bed, number_square, square_number   the same of a column and a row: they are on the bed, and their number lies in the block
use mathlib.Core.Path.{◌≡◌, ap, sym, ◌∙◌}
use mathlib.Core.Logic.{◌↔◌}
use Prim.Native.Nat.{ℕ, zero, suc, ◌+◌, ◌-◌, ◌*◌, ◌/◌, ◌%◌, ◌^◌, ◌≤◌, ◌<◌}
use native.Mathlib.Omega.{arith}
use native.Mathlib.Nat.{pow-succ', mod-lt, div-add-mod', mul-le-mul_right, lt_of_mul-lt-mul_right, one-le-pow}
use lib.Pow.{pow-add}
use Rattle.morton.specs.Morton.{morton, column, row, Square}
use Rattle.morton.proofs.MortonLaws.{morton_lt, column_lt, row_lt, column_zero, row_zero, column_morton, row_morton, morton_unique}

-- the d-th number of the q-th block of size suc k, by fours
fours : (k q d : ℕ) → q * 4 ^ suc k + d ≡ 4 * (q * 4 ^ k + d / 4) + d % 4
fours k q d = omega (arith, ap (λ (x : ℕ). q * x) (pow-succ' 4 k))

pub column_block : (n k q d : ℕ) → k ≤ n → d < 4 ^ k → column n (q * 4 ^ k + d) ≡ column (n - k) q * 2 ^ k + column k d
unfolding column
column_block n zero q d h l =
    let e : q * 1 + d ≡ q = omega arith in
    let f : n - 0 ≡ n = omega arith in
    rw (e, f) (omega arith)
column_block zero (suc k) q d h l = absurd (omega arith)
column_block (suc n) (suc k) q d h l =
    let f = fours k q d in
    let e : (q * 4 ^ suc k + d) / 4 ≡ q * 4 ^ k + d / 4 = omega arith in
    let s : suc n - suc k ≡ n - k = omega arith in
    let i = column_block n k q (d / 4) (omega arith) (omega arith) in
    let p = ap (λ (x : ℕ). column (n - k) q * x) (pow-succ' 2 k) in
    rw (e, s) (omega arith)

pub row_block : (n k q d : ℕ) → k ≤ n → d < 4 ^ k → row n (q * 4 ^ k + d) ≡ row (n - k) q * 2 ^ k + row k d
unfolding row
row_block n zero q d h l =
    let e : q * 1 + d ≡ q = omega arith in
    let f : n - 0 ≡ n = omega arith in
    rw (e, f) (omega arith)
row_block zero (suc k) q d h l = absurd (omega arith)
row_block (suc n) (suc k) q d h l =
    let f = fours k q d in
    let e : (q * 4 ^ suc k + d) / 4 ≡ q * 4 ^ k + d / 4 = omega arith in
    let g : (q * 4 ^ suc k + d) / 2 ≡ 2 * (q * 4 ^ k + d / 4) + d % 4 / 2 = omega arith in
    let s : suc n - suc k ≡ n - k = omega arith in
    let i = row_block n k q (d / 4) (omega arith) (omega arith) in
    let p = ap (λ (x : ℕ). row (n - k) q * x) (pow-succ' 2 k) in
    rw (e, g, s) (omega arith)

power_apart : (b n k : ℕ) → k ≤ n → b ^ (n - k) * b ^ k ≡ b ^ n
power_apart b n k h = let e : n - k + k ≡ n = omega arith in sym (pow-add b (n - k) k) ∙ ap (λ (x : ℕ). b ^ x) e

module _ (n k q : ℕ) (h : k ≤ n) where
  pub column_corner : column n (q * 4 ^ k) ≡ column (n - k) q * 2 ^ k
  column_corner =
      let e : q * 4 ^ k + 0 ≡ q * 4 ^ k = omega arith in
      omega (arith, rw e at (column_block n k q 0 h (one-le-pow k 4 (omega arith))), column_zero k)

  pub row_corner : row n (q * 4 ^ k) ≡ row (n - k) q * 2 ^ k
  row_corner =
      let e : q * 4 ^ k + 0 ≡ q * 4 ^ k = omega arith in
      omega (arith, rw e at (row_block n k q 0 h (one-le-pow k 4 (omega arith))), row_zero k)

  pub column_room : column n (q * 4 ^ k) + 2 ^ k ≤ 2 ^ n
  column_room = omega (arith, column_corner, mul-le-mul_right (2 ^ k) (column_lt (n - k) q), power_apart 2 n k h)

  pub row_room : row n (q * 4 ^ k) + 2 ^ k ≤ 2 ^ n
  row_room = omega (arith, row_corner, mul-le-mul_right (2 ^ k) (row_lt (n - k) q), power_apart 2 n k h)

pub block_square : (n k q z : ℕ) → k ≤ n → q * 4 ^ k ≤ z → z < q * 4 ^ k + 4 ^ k → Square n k (q * 4 ^ k) (column n z) (row n z)
block_square n k q z h l g =
    let d = z - q * 4 ^ k in
    let e : q * 4 ^ k + d ≡ z = omega arith in
    let c = rw e at (column_block n k q d h (omega arith)) in
    let r = rw e at (row_block n k q d h (omega arith)) in
    let cc = column_corner n k q h in
    let rc = row_corner n k q h in
    record { west = omega arith; east = omega (arith, column_lt k d); north = omega arith; south = omega (arith, row_lt k d) }

-- b * s + d, where d is below s, lies in the stretch of s numbers from a * s on only where b is a
same_multiple : (s a b d : ℕ) → d < s → a * s ≤ b * s + d → b * s + d < a * s + s → b ≡ a
same_multiple s a b d h l g =
    let p = lt_of_mul-lt-mul_right s {m = a} {n = b + 1} (omega arith) in
    let q = lt_of_mul-lt-mul_right s {m = b} {n = a + 1} (omega arith) in
    omega arith

pub square_block : (n k q z : ℕ) → k ≤ n → q * 4 ^ k < 4 ^ n → z < 4 ^ n → Square n k (q * 4 ^ k) (column n z) (row n z) → (q * 4 ^ k ≤ z) × (z < q * 4 ^ k + 4 ^ k)
square_block n k q z h l g s =
    let p = z / 4 ^ k in
    let d = z % 4 ^ k in
    let e : p * 4 ^ k + d ≡ z = div-add-mod' z (4 ^ k) in
    let m : d < 4 ^ k = mod-lt z (one-le-pow k 4 (omega arith)) in
    let c = rw e at (column_block n k p d h m) in
    let r = rw e at (row_block n k p d h m) in
    let w = power_apart 4 n k h in
    let inside : p < 4 ^ (n - k) = lt_of_mul-lt-mul_right (4 ^ k) (omega arith) in
    let within : q < 4 ^ (n - k) = lt_of_mul-lt-mul_right (4 ^ k) (omega arith) in
    let cc = column_corner n k q h in
    let rc = row_corner n k q h in
    let columns = same_multiple (2 ^ k) (column (n - k) q) (column (n - k) p) (column k d) (column_lt k d) (omega arith) (omega arith) in
    let rows = same_multiple (2 ^ k) (row (n - k) q) (row (n - k) p) (row k d) (row_lt k d) (omega arith) (omega arith) in
    let t = ap (λ (x : ℕ). x * 4 ^ k) (morton_unique (n - k) p q inside within columns rows) in
    (omega arith, omega arith)

pub block_is_square : (n k q z : ℕ) → k ≤ n → q * 4 ^ k < 4 ^ n → z < 4 ^ n → ((q * 4 ^ k ≤ z) × (z < q * 4 ^ k + 4 ^ k)) ↔ Square n k (q * 4 ^ k) (column n z) (row n z)
block_is_square n k q z h l g = ((λ b. block_square n k q z h b.0 b.1), square_block n k q z h l g)

module _ (n k q c r : ℕ) (h : k ≤ n) where
  pub square_bed : Square n k (q * 4 ^ k) c r → (c < 2 ^ n) × (r < 2 ^ n)
  square_bed s = (omega (arith, column_room n k q h, s.east), omega (arith, row_room n k q h, s.south))

  pub number_square : c < 2 ^ n → r < 2 ^ n → q * 4 ^ k ≤ morton n c r → morton n c r < q * 4 ^ k + 4 ^ k → Square n k (q * 4 ^ k) c r
  number_square o p l g = rw (column_morton n c r o, row_morton n c r p) at (block_square n k q (morton n c r) h l g)

  pub square_number : q * 4 ^ k < 4 ^ n → Square n k (q * 4 ^ k) c r → (q * 4 ^ k ≤ morton n c r) × (morton n c r < q * 4 ^ k + 4 ^ k)
  square_number l s =
      let o = square_bed s in
      square_block n k q (morton n c r) h l (morton_lt n c r) (rw (column_morton n c r o.0, row_morton n c r o.1) s)
