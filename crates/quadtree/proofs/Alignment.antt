-- Powers of four and their multiples. The theory's arithmetic that is not linear stands here, but for what goes by bits (`TrailingZeros`, `HighestBit`).
--     cmp a b                     a is below b, the same, or above
--     area_pos, area_mono         4 ^ k is positive, and grows with k
--     aligned_zero .. -down       which numbers are multiples of 4 ^ k
--     aligned_gap, aligned_room   two multiples lie 4 ^ k apart; so a block that starts below a multiple ends there at the latest
--     aligned_nest                of two blocks that meet, the smaller lies in the larger
--     corner_aligned, -has        the corner of the block of a size that has a number is a multiple, and the block has the number
--     corner_only                 no other block of the size has it
--     test_aligned                the test of the definitions
use mathlib.Core.Path.{◌≡◌, ap, sym, ◌∙◌}
use Prim.Native.Nat.{ℕ, suc, ◌+◌, ◌-◌, ◌*◌, ◌/◌, ◌%◌, ◌^◌, ◌≤◌, ◌<◌}
use native.Mathlib.Nat.{one-le-pow, pow-le-pow_right, mul-le-mul_right, lt_of_mul-lt-mul_right, mul_assoc, zero-lt-suc, add-mul, div-add-mod', mul-mod_left, mod-lt}
use native.Mathlib.Decide.{dec_le, dec_lt}
use native.Mathlib.Omega.{arith}
use lib.Pow.{pow-add}
use Rattle.basics.proofs.Tests.{Test, test_eqb, test_map}
use Rattle.tile.specs.Tile.{corner_at}
use Rattle.tile.proofs.TileLaws.{mod_le}
use Rattle.quadtree.specs.Raster.{Aligned, aligned}

pub data Cmp (a b : ℕ) : Type 0 where
  below : a < b → Cmp a b
  same : a ≡ b → Cmp a b
  above : b < a → Cmp a b

pub cmp : (a b : ℕ) → Cmp a b
cmp a b = elim (dec_le (suc a) b) [ yes h ↦ below h | no h ↦ elim (dec_le (suc b) a) [ yes g ↦ above g | no g ↦ same (omega arith) ] ]

pub area_pos : (k : ℕ) → 0 < 4 ^ k
area_pos k = one-le-pow k 4 (zero-lt-suc 3)

pub area_mono : {j k : ℕ} → j ≤ k → 4 ^ j ≤ 4 ^ k
area_mono h = pow-le-pow_right (zero-lt-suc 3) h

pub size_le : (j n : ℕ) → 4 ^ j ≤ 4 ^ n → j ≤ n
size_le j n h = elim (dec_le j n) [ yes l ↦ l | no l ↦ absurd (let g : 4 ^ suc n ≤ 4 ^ j = area_mono (omega arith) in omega (arith, area_pos n)) ]

pub aligned_zero : (k : ℕ) → Aligned k 0
aligned_zero k = record { times = 0; is = omega arith }

pub aligned_unit : (x : ℕ) → Aligned 0 x
aligned_unit x = record { times = x; is = omega arith }

pub aligned_self : (k : ℕ) → Aligned k (4 ^ k)
aligned_self k = record { times = 1; is = omega arith }

pub aligned_next : {k x : ℕ} → Aligned k x → Aligned k (x + 4 ^ k)
aligned_next {k} m = record { times = suc m.times; is = omega arith }

-- the corner of a quadrant of an aligned block
pub aligned_quarter : {k x : ℕ} (i : ℕ) → Aligned k x → Aligned k (x + i * 4 ^ k)
aligned_quarter {k} {x} i m = record { times = m.times + i; is = ap (λ (y : ℕ). y + i * 4 ^ k) m.is ∙ sym (add-mul m.times i (4 ^ k)) }

pub aligned_down : {j k x : ℕ} → j ≤ k → Aligned k x → Aligned j x
aligned_down {j} {k} h m = record { times = m.times * 4 ^ (k - j); is = m.is ∙ ap (λ (y : ℕ). m.times * y) (ap (λ (e : ℕ). 4 ^ e) (omega arith) ∙ pow-add 4 (k - j) j) ∙ sym (mul_assoc m.times _ _) }

pub aligned_gap : {k x y : ℕ} → Aligned k x → Aligned k y → x < y → x + 4 ^ k ≤ y
aligned_gap {k} {x} {y} m n h =
    let l : m.times * 4 ^ k < n.times * 4 ^ k = omega arith in
    let g = mul-le-mul_right (4 ^ k) (lt_of_mul-lt-mul_right (4 ^ k) l) in
    omega arith

pub aligned_room : {j k x : ℕ} → j ≤ k → Aligned j x → x < 4 ^ k → x + 4 ^ j ≤ 4 ^ k
aligned_room {k = k} h m l = aligned_gap m (aligned_down h (aligned_self k)) l

-- the block of size j at x meets that of size k at c, and is no larger
pub aligned_nest : {j k x c : ℕ} → j ≤ k → Aligned j x → Aligned k c → c < x + 4 ^ j → x < c + 4 ^ k → (c ≤ x) × (x + 4 ^ j ≤ c + 4 ^ k)
aligned_nest {j} {k} {x} {c} h m n p q = (from, aligned_gap m (aligned_down h (aligned_next n)) q)
  where
    from : c ≤ x
    from = elim (dec_lt x c) [ yes l ↦ absurd (omega (arith, aligned_gap m (aligned_down h n) l)) | no l ↦ omega arith ]

pub corner_aligned : (k z : ℕ) → Aligned k (corner_at k z)
corner_aligned k z = record { times = z / 4 ^ k; is = omega (arith, div-add-mod' z (4 ^ k)) }

pub corner_has : (k z : ℕ) → (corner_at k z ≤ z) × (z < corner_at k z + 4 ^ k)
corner_has k z = (omega arith, omega (arith, mod-lt z (area_pos k), mod_le z (4 ^ k)))

pub corner_only : {k c z : ℕ} → Aligned k c → c ≤ z → z < c + 4 ^ k → c ≡ corner_at k z
corner_only {k} {c} {z} m l h =
    let b = corner_has k z in
    omega (
      arith,
      aligned_nest {j = k} {k = k} {x = c} {c = corner_at k z} (omega arith) m (corner_aligned k z) (omega (arith, b.0)) (omega (arith, b.1)),
      aligned_nest {j = k} {k = k} {x = corner_at k z} {c = c} (omega arith) (corner_aligned k z) m (omega (arith, b.1)) (omega (arith, b.0)),
    )

pub test_aligned : (k x : ℕ) → Test (Aligned k x) (aligned k x)
unfolding aligned
test_aligned k x = test_map
    (λ e. record { times = x / 4 ^ k; is = omega (arith, div-add-mod' x (4 ^ k)) })
    (λ m. ap (λ (y : ℕ). y % 4 ^ k) m.is ∙ mul-mod_left m.times (4 ^ k))
    (test_eqb (x % 4 ^ k) 0)
