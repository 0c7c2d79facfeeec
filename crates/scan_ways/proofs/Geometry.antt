-- The blocks of a band, as squares of pixels and as stretches of Morton numbers.
--     Block n k x r c   the block of size k at the corner c is the square of 2 ^ k by 2 ^ k pixels whose first column is x and first row r
--     block             the block whose corner is the pixel at the column x and the row r
--     rows_of, places-of   the pixels of some rows have the places of these rows, and no others have
--     column_last_le    the last pixel of a block lies in no column west of another pixel of it
use mathlib.Core.Path.{◌≡◌, refl, ap, sym, ◌∙◌}
use Prim.Native.Nat.{ℕ, ◌+◌, ◌-◌, ◌*◌, ◌^◌, ◌≤◌, ◌<◌}
use native.Mathlib.Nat.{mul-le-mul_right, lt_of_mul-lt-mul_right, add-mul}
use native.Mathlib.Omega.{arith}
use lib.Pow.{pow-add}
use Rattle.morton.specs.Morton.{morton, column, row}
use Rattle.morton.proofs.MortonLaws.{morton_lt, column_lt, column_morton, row_morton, morton_unique}
use Rattle.morton.proofs.Squares.{column_corner, row_corner, block_square, square_block}
use Rattle.quadtree.specs.Raster.{Aligned}
use Rattle.quadtree.proofs.Alignment.{area_pos, size_le}
use Rattle.bed.specs.Places.{place_of}
use Rattle.bed.specs.declared.Kind.TheVariants.{Rows}
use Rattle.bed.proofs.LastPixel.{column_last}

power_apart : (b n k : ℕ) → k ≤ n → b ^ (n - k) * b ^ k ≡ b ^ n
power_apart b n k h = let e : n - k + k ≡ n = omega arith in sym (pow-add b (n - k) k) ∙ ap (λ (x : ℕ). b ^ x) e

pub record Block (n k x r c : ℕ) : Type 0 where
  pub aligned : Aligned k c
  pub inside : c + 4 ^ k ≤ 4 ^ n
  pub west : (z : ℕ) → c ≤ z → z < c + 4 ^ k → x ≤ column n z
  pub east : (z : ℕ) → c ≤ z → z < c + 4 ^ k → column n z < x + 2 ^ k
  pub north : (z : ℕ) → c ≤ z → z < c + 4 ^ k → r ≤ row n z
  pub south : (z : ℕ) → c ≤ z → z < c + 4 ^ k → row n z < r + 2 ^ k
  pub has : (z : ℕ) → z < 4 ^ n → x ≤ column n z → column n z < x + 2 ^ k → r ≤ row n z → row n z < r + 2 ^ k → (c ≤ z) × (z < c + 4 ^ k)

module _ (n k a b x r : ℕ) (h : k ≤ n) (ex : x ≡ a * 2 ^ k) (er : r ≡ b * 2 ^ k) (lx : x < 2 ^ n) (lr : r < 2 ^ n) where
  -- the block's number among those of its size
  abbrev q : ℕ
  q = morton (n - k) a b

  q_lt : q * 4 ^ k + 4 ^ k ≤ 4 ^ n
  q_lt = omega (arith, mul-le-mul_right (4 ^ k) (morton_lt (n - k) a b), power_apart 4 n k h)

  a_lt : a < 2 ^ (n - k)
  a_lt = lt_of_mul-lt-mul_right (2 ^ k) (omega (arith, power_apart 2 n k h))

  b_lt : b < 2 ^ (n - k)
  b_lt = lt_of_mul-lt-mul_right (2 ^ k) (omega (arith, power_apart 2 n k h))

  column_q : column n (q * 4 ^ k) ≡ x
  column_q = column_corner n k q h ∙ rw (column_morton (n - k) a b a_lt) (sym ex)

  row_q : row n (q * 4 ^ k) ≡ r
  row_q = row_corner n k q h ∙ rw (row_morton (n - k) a b b_lt) (sym er)

  corner_q : morton n x r ≡ q * 4 ^ k
  corner_q = morton_unique n (morton n x r) (q * 4 ^ k) (morton_lt n x r) (omega (arith, q_lt, area_pos k)) (column_morton n x r lx ∙ sym column_q) (row_morton n x r lr ∙ sym row_q)

  pub block : Block n k x r (morton n x r)
  block = rw corner_q (record {
    aligned = record { times = q; is = refl };
    inside = q_lt;
    west = λ z l u. omega (arith, (block_square n k q z h l u).west, column_q);
    east = λ z l u. omega (arith, (block_square n k q z h l u).east, column_q);
    north = λ z l u. omega (arith, (block_square n k q z h l u).north, row_q);
    south = λ z l u. omega (arith, (block_square n k q z h l u).south, row_q);
    has = λ z i w e no s. square_block n k q z h (omega (arith, q_lt, area_pos k)) i (record { west = omega (arith, column_q); east = omega (arith, column_q); north = omega (arith, row_q); south = omega (arith, row_q) });
  })

module _ (n r m z : ℕ) where
  pub rows_of : r * 2 ^ n ≤ place_of Rows n z → place_of Rows n z < r * 2 ^ n + m * 2 ^ n → (r ≤ row n z) × (row n z < r + m)
  unfolding place_of
  rows_of l h =
      let c = column_lt n z in
      let a = lt_of_mul-lt-mul_right (2 ^ n) {m = r} {n = row n z + 1} (omega (arith, add-mul (row n z) 1 (2 ^ n))) in
      let b = lt_of_mul-lt-mul_right (2 ^ n) {m = row n z} {n = r + m} (omega (arith, add-mul r m (2 ^ n))) in
      (omega arith, b)

  pub places_from : r ≤ row n z → r * 2 ^ n ≤ place_of Rows n z
  unfolding place_of
  places_from l = omega (arith, mul-le-mul_right (2 ^ n) l)

  pub places_upto : row n z < r + m → place_of Rows n z < r * 2 ^ n + m * 2 ^ n
  unfolding place_of
  places_upto l =
      let le : row n z + 1 ≤ r + m = omega arith in
      omega (arith, mul-le-mul_right (2 ^ n) le, add-mul (row n z) 1 (2 ^ n), add-mul r m (2 ^ n), column_lt n z)

pub column_last_le : (n j c z : ℕ) → Aligned j c → c ≤ z → z < c + 4 ^ j → c + 4 ^ j ≤ 4 ^ n → column n z ≤ column n (c + 4 ^ j - 1)
column_last_le n j c z m l h g =
    let s : j ≤ n = size_le j n (omega arith) in
    let b = rw (← m.is) at (block_square n j m.times z s (omega (arith, m.is)) (omega (arith, m.is))) in
    omega (arith, b.east, rw (← m.is) at (column_last n j m.times s))
