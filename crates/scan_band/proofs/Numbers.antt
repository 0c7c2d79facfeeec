-- Numbers of a band as the code computes them.
--     row_le, row_first         the row of a place
--     many_small, many_shift    how many places a band has
use mathlib.Core.Path.{◌≡◌, sym, ◌∙◌}
use Prim.Native.Nat.{ℕ, ◌+◌, ◌*◌, ◌/◌, ◌%◌, ◌^◌, ◌≤◌}
use native.Mathlib.Nat.{mul-le-mul_right, add-mul, div-add-mod', lt_of_mul-lt-mul_right}
use native.Mathlib.Omega.{arith}
use lib.Pow.{pow_pos, pow_mono}
use Rattle.tile.specs.Tile.{highest_order}
use Rattle.quadtree.proofs.Alignment.{area_mono}
use Rattle.bed.proofs.PlaceLaws.{area_sides}
use Rattle.scan_ways.specs.Bands.{first, many}

module _ (n r : ℕ) (h : n ≤ highest_order) (l : r ≤ 2 ^ n) where
  row_small : r * 2 ^ n ≤ 4 ^ highest_order
  row_small = let big : 4 ^ n ≤ 4 ^ highest_order = area_mono h in omega (arith, mul-le-mul_right (2 ^ n) l, area_sides n)

  row_shift : r * 2 ^ n % 2 ^ 32 ≡ first n r
  row_shift = omega (arith, row_small)

pub many_small : (n k : ℕ) → n ≤ highest_order → k ≤ n → many n k ≤ 4 ^ highest_order
many_small n k h l = let a : 2 ^ k ≤ 2 ^ n = pow_mono l in row_small n (2 ^ k) h a

pub many_shift : (n k : ℕ) → n ≤ highest_order → k ≤ n → 2 ^ k * 2 ^ n % 2 ^ 64 ≡ many n k
many_shift n k h l = omega (arith, many_small n k h l)

-- the row of a place
module _ (n p : ℕ) (h : n ≤ highest_order) (l : p ≤ 4 ^ n) where
  pub row_le : p / 2 ^ n ≤ 2 ^ n
  row_le =
      let a = lt_of_mul-lt-mul_right (2 ^ n) {m = p / 2 ^ n} {n = 2 ^ n + 1} (omega (arith, div-add-mod' p (2 ^ n), area_sides n, add-mul (2 ^ n) 1 (2 ^ n), pow_pos n)) in
      omega arith

  pub row_first : p / 2 ^ n * 2 ^ n % 2 ^ 32 ≡ p → first n (p / 2 ^ n) ≡ p
  row_first e = sym (row_shift n (p / 2 ^ n) h row_le) ∙ e
