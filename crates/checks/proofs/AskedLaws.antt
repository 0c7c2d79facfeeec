-- Laws of the checks of what a call is handed besides its map.
--     order_refused, order_inside    1 by how it ends; order-passed, what passes
--     test_point_in            the test of 31
--     point_outside_lem, -inside  31 by how it ends; point-passed, what passes
--     coordinate_outside, -inside    31 of one coordinate by how it ends; coordinate-passed, -refused, what that says
--     block_passed            what passes 32; block-unaligned, block_inside, how its last test ends
--     shift_side              1 shifted by an order is the side of its bed
use mathlib.Core.Path.{◌≡◌, sym}
use Prim.Native.Nat.{ℕ, suc, ◌*◌, ◌%◌, ◌^◌, ◌≤◌, ◌<◌}
use native.Mathlib.Decide.{dec_lt}
use native.Mathlib.Nat.{pow-le-pow_right}
use native.Mathlib.Omega.{arith}
use Rattle.basics.proofs.Tests.{Test, test_leb, test_and}
use borrow.Author.Tests.{le-leb, lt-ltb, eq-eqb, ne_eqb}
use Rattle.refusal.specs.Refusal.{accepted, order_too_large, point_outside, block_invalid}
use Rattle.refusal.specs.Checks.{must}
use Rattle.refusal.proofs.CheckLaws.{must_on, must_off, must_inv}
use Rattle.tile.specs.Tile.{highest_order}
use Rattle.quadtree.specs.Raster.{Aligned, aligned}
use Rattle.bed.specs.Bed.{block_in}
use Rattle.bed.proofs.BedLaws.{test_block_in}
use Rattle.checks.specs.Asked.{order_check, point_in, point_check, coordinate_check, block_check}

pub order_refused : (n : ℕ) → highest_order < n → order_too_large ≡ order_check n
unfolding order_check
order_refused n h = sym (must_off _ _ (test_leb n highest_order) (λ l. omega arith))

pub order_inside : (n : ℕ) → n ≤ highest_order → order_check n ≡ accepted
unfolding order_check
order_inside n h = must_on _ _ (test_leb n highest_order) h

pub order_passed : (n : ℕ) → order_check n ≡ accepted → n ≤ highest_order
unfolding order_check
order_passed n e = (must_inv (test_leb n highest_order) (omega arith) e).0

pub test_point_in : (n c r : ℕ) → Test ((c < 2 ^ n) × (r < 2 ^ n)) (point_in n c r)
unfolding point_in
test_point_in n c r = test_and (test_leb (suc c) (2 ^ n)) (test_leb (suc r) (2 ^ n))

module _ (n c r : ℕ) where
  pub point_outside_lem : ((c < 2 ^ n) × (r < 2 ^ n) → ⊥) → point_outside ≡ point_check n c r
  unfolding point_check
  point_outside_lem h = sym (must_off _ _ (test_point_in n c r) h)

  pub point_inside : (c < 2 ^ n) × (r < 2 ^ n) → accepted ≡ point_check n c r
  unfolding point_check
  point_inside h = sym (must_on _ _ (test_point_in n c r) h)

  pub point_passed : point_check n c r ≡ accepted → (c < 2 ^ n) × (r < 2 ^ n)
  unfolding point_check
  point_passed e = (must_inv (test_point_in n c r) (omega arith) e).0

module _ (n p : ℕ) where
  pub coordinate_outside : 2 ^ n ≤ p → point_outside ≡ coordinate_check n p
  unfolding coordinate_check
  coordinate_outside h = sym (must_off _ _ (test_leb (suc p) (2 ^ n)) (λ l. omega arith))

  pub coordinate_inside : p < 2 ^ n → accepted ≡ coordinate_check n p
  unfolding coordinate_check
  coordinate_inside h = sym (must_on _ _ (test_leb (suc p) (2 ^ n)) h)

  pub coordinate_passed : coordinate_check n p ≡ accepted → p < 2 ^ n
  unfolding coordinate_check
  coordinate_passed e = (must_inv (test_leb (suc p) (2 ^ n)) (omega arith) e).0

  pub coordinate_refused : (coordinate_check n p ≡ accepted → ⊥) → 2 ^ n ≤ p
  coordinate_refused f = elim (dec_lt p (2 ^ n)) [
    | yes l ↦ absurd (f (sym (coordinate_inside l)))
    | no l ↦ omega arith
  ]

pub block_passed : (n c k : ℕ) → block_check n c k ≡ accepted → (k ≤ n) × ((c < 4 ^ n) × Aligned k c)
unfolding block_check
block_passed n c k e = (must_inv (test_block_in n c k) (omega arith) e).0

-- 32 behind its first two tests, as code computes the last one
module _ (n c k d : ℕ) (is : d ≡ 4 ^ k) (l : k ≤ n) (h : c < 4 ^ n) where
  pub block_unaligned : (c % d ≡ 0 → ⊥) → block_invalid ≡ block_check n c k
  unfolding block_check block_in aligned must
  block_unaligned z = simp (le-leb k n l, lt-ltb c (4 ^ n) h, ne_eqb (c % 4 ^ k) 0 (rw is at z))

  pub block_inside : c % d ≡ 0 → accepted ≡ block_check n c k
  unfolding block_check block_in aligned must
  block_inside z = simp (le-leb k n l, lt-ltb c (4 ^ n) h, eq-eqb (c % 4 ^ k) 0 (rw is at z))

pub shift_side : (n : ℕ) → n ≤ highest_order → 1 * 2 ^ n % 2 ^ 32 ≡ 2 ^ n
shift_side n h = let l : 2 ^ n ≤ 2 ^ highest_order = pow-le-pow_right (omega arith) h in omega arith
