-- The levels of a pixel by its column and its row: the largest powers of two that divide the two, counted from 1, bound the block that ends with it.
--     aligned_twos   where column and row, counted from 1, are multiples of 2 ^ j, a block of size j ends with the pixel
--     levels_sides   the smaller count of trailing zeros of the two are the levels of the pixel
-- Not here: the levels by the Morton number (quadtree, `levels_half`), and that a block gives such a column and row (bed, `column_twos`, `row_twos`).
use mathlib.Core.Path.{◌≡◌, ◌∙◌, ap}
use Prim.Native.Nat.{ℕ, zero, suc, ◌+◌, ◌*◌, ◌/◌, ◌%◌, ◌^◌, min, ◌≤◌, ◌<◌}
use native.Mathlib.Nat.{div-add-mod', pow-succ', min-eq_left, min-eq_right}
use native.Mathlib.Decide.{dec_le}
use native.Mathlib.Omega.{arith}
use lib.Pow.{pow-lt, shl-shr}
use lib.Count.{count_trailing_zeros}
use Rattle.morton.specs.Morton.{morton, side_bits}
use Rattle.morton.proofs.MortonLaws.{morton_lt, column_morton, row_morton}
use Rattle.tile.specs.Tile.{highest_order}
use Rattle.quadtree.specs.Raster.{Aligned}
use Rattle.quadtree.proofs.Alignment.{aligned_unit}
use Rattle.bed.proofs.PlaceLaws.{Twos, column_twos, row_twos}
use Rattle.quadtree.specs.Tiling.{Levels}
use Rattle.quadtree.proofs.TrailingZeros.{tz_divides, tz_odd}

twos_zeros : (x j : ℕ) → j ≤ count_trailing_zeros 32 x → Twos j x
twos_zeros x j h = record { times = x / 2 ^ j; is = omega (arith, div-add-mod' x (2 ^ j), tz_divides 32 x j h) }

twos_past : (x : ℕ) → 0 < x → x < 2 ^ 32 → Twos (suc (count_trailing_zeros 32 x)) x → ⊥
twos_past x h g t =
    let k = count_trailing_zeros 32 x in
    let e : x ≡ t.times * 2 * 2 ^ k = t.is ∙ omega (arith, ap (λ (y : ℕ). t.times * y) (pow-succ' 2 k)) in
    let d : x / 2 ^ k ≡ t.times * 2 = ap (λ (y : ℕ). y / 2 ^ k) e ∙ shl-shr (t.times * 2) k in
    omega (arith, tz_odd 32 x h g)

-- the quadrant's parent, in columns or in rows
twos_half : (j x : ℕ) → Twos (suc j) (x + 1) → (x % 2 ≡ 1) × Twos j (x / 2 + 1)
twos_half j x t =
    let e : x + 1 ≡ 2 * (t.times * 2 ^ j) = t.is ∙ omega (arith, ap (λ (y : ℕ). t.times * y) (pow-succ' 2 j)) in
    (omega arith, record { times = t.times; is = omega arith })

pub aligned_twos : (n j c r : ℕ) → j ≤ n → Twos j (c + 1) → Twos j (r + 1) → Aligned j (morton n c r + 1)
unfolding morton
aligned_twos n zero c r h p q = aligned_unit (morton n c r + 1)
aligned_twos zero (suc j) c r h p q = absurd (omega arith)
aligned_twos (suc n) (suc j) c r h p q =
    let a = twos_half j c p in
    let b = twos_half j r q in
    let m = aligned_twos n j (c / 2) (r / 2) (omega arith) a.1 b.1 in
    record { times = m.times; is = omega (arith, a.0, b.0, m.is, ap (λ (y : ℕ). m.times * y) (pow-succ' 4 j)) }

twos_few : (n j x : ℕ) → 0 < x → x ≤ 2 ^ n → Twos j x → j ≤ n
twos_few n j x h g t = go t.times t.is
  where
    go : (k : ℕ) → x ≡ k * 2 ^ j → j ≤ n
    go zero e = absurd (omega arith)
    go (suc k) e = elim (dec_le j n) [ yes l ↦ l | no l ↦ absurd (let b : 2 ^ n < 2 ^ j = pow-lt (omega arith) in omega arith) ]

module _ (c r : ℕ) (hc : c < 2 ^ highest_order) (hr : r < 2 ^ highest_order) where
  abbrev across : ℕ
  across = count_trailing_zeros 32 (c + 1)

  abbrev down : ℕ
  down = count_trailing_zeros 32 (r + 1)

  -- a power of two divides both, and the next one not both
  levels_both : (l : ℕ) → l ≤ across → l ≤ down → (Twos (suc l) (c + 1) → Twos (suc l) (r + 1) → ⊥) → Levels (morton side_bits c r + 1) l
  levels_both l p q n =
      let z = morton side_bits c r in
      let h = morton_lt side_bits c r in
      let few : l ≤ highest_order = twos_few highest_order l (c + 1) (omega arith) (omega arith) (twos_zeros (c + 1) l p) in
      record {
        few = few;
        ends = aligned_twos side_bits l c r few (twos_zeros (c + 1) l p) (twos_zeros (r + 1) l q);
        over = λ m. n (rw (column_morton side_bits c r hc) at (column_twos side_bits (suc l) z h m)) (rw (row_morton side_bits c r hr) at (row_twos side_bits (suc l) z h m));
      }

  pub levels_sides : Levels (morton side_bits c r + 1) (min across down)
  levels_sides = elim (dec_le across down) [
    | yes h ↦ rw (min-eq_left h) (levels_both across (omega arith) h (λ p q. twos_past (c + 1) (omega arith) (omega arith) p))
    | no h ↦ let g : down ≤ across = omega arith in rw (min-eq_right g) (levels_both down g (omega arith) (λ p q. twos_past (r + 1) (omega arith) (omega arith) q))
  ]
