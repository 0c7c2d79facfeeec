-- The highest bit of a number: the largest area up to it, and so the largest block that has one number and not another.
--     Room d r         4 ^ r is the largest area up to d
--     room_size        half the place of the highest bit of d is such a size
--     zeros_few        a number that is not 0 has at most 31 zeros ahead of its highest bit
--     xor_same         numbers that differ in no bit are the same
--     xor_some         numbers that are not the same differ in one
--     without_half     half the place of the highest bit in which they differ is the size of the largest block that has the one and not the other
use mathlib.Core.Path.{◌≡◌, ap, sym, ◌∙◌}
use Prim.Native.Nat.{ℕ, suc, ◌+◌, ◌-◌, ◌*◌, ◌/◌, ◌^◌, ◌≤◌, ◌<◌}
use native.Mathlib.Nat.{div-add-mod', mod-lt, mul-div_cancel, div-eq_of_lt}
use native.Mathlib.Decide.{dec_lt}
use native.Mathlib.Omega.{arith}
use lib.Bits.{bit_xor, and_le_l, and_le_r, xor_add_and, xor_self, xor_lt, xor_shr}
use lib.Count.{count_leading_zeros, leading_top}
use lib.Pow.{pow_mono}
use Rattle.tile.specs.Tile.{corner_at}
use Rattle.quadtree.specs.Tiling.{Has, Without}
use Rattle.quadtree.proofs.Alignment.{area_pos, corner_aligned, corner_has, corner_only}
use Rattle.quadtree.proofs.TrailingZeros.{twice}

pub record Room (d r : ℕ) : Type 0 where
  pub fits : 4 ^ r ≤ d
  pub more : d < 4 ^ suc r

pub room_size : (d : ℕ) → 0 < d → d < 2 ^ 32 → Room d ((31 - count_leading_zeros 32 d) / 2)
room_size d h l = go (leading_top 32 d h l)
  where
    half : (j : ℕ) → 2 ^ j ≤ d → d < 2 ^ suc j → Room d (j / 2)
    half j p q = record {
      fits = let m : 2 ^ (2 * (j / 2)) ≤ 2 ^ j = pow_mono (omega arith) in omega (arith, twice (j / 2));
      more = let m : 2 ^ suc j ≤ 2 ^ (2 * suc (j / 2)) = pow_mono (omega arith) in omega (arith, twice (suc (j / 2)));
    }

    go : (j : ℕ) × (count_leading_zeros 32 d + suc j ≡ 32) × (2 ^ j ≤ d) × (d < 2 ^ suc j) → Room d ((31 - count_leading_zeros 32 d) / 2)
    go (j, e, p, q) = let s : 31 - count_leading_zeros 32 d ≡ j = omega arith in rw s (half j p q)

pub zeros_few : (d : ℕ) → 0 < d → d < 2 ^ 32 → count_leading_zeros 32 d ≤ 31
zeros_few d h l = let t = leading_top 32 d h l in omega (arith, t.1)

pub xor_same : (a b : ℕ) → bit_xor a b ≡ 0 → a ≡ b
xor_same a b e = omega (arith, xor_add_and a b, and_le_l a b, and_le_r a b)

-- the corner by the quotient
corner_quotient : (k z : ℕ) → corner_at k z ≡ z / 4 ^ k * 4 ^ k
corner_quotient k z = omega (arith, div-add-mod' z (4 ^ k))

has_quotient : (k z y : ℕ) → Has k z y → z / 4 ^ k ≡ y / 4 ^ k
has_quotient k z y h =
    let e : z / 4 ^ k * 4 ^ k ≡ y / 4 ^ k * 4 ^ k = sym (corner_quotient k z) ∙ corner_only (corner_aligned k z) h.0 h.1 ∙ corner_quotient k y in
    sym (mul-div_cancel (z / 4 ^ k) (area_pos k)) ∙ ap (λ (x : ℕ). x / 4 ^ k) e ∙ mul-div_cancel (y / 4 ^ k) (area_pos k)

quotient_has : (k z y : ℕ) → z / 4 ^ k ≡ y / 4 ^ k → Has k z y
quotient_has k z y e =
    let c : corner_at k z ≡ corner_at k y = corner_quotient k z ∙ ap (λ (x : ℕ). x * 4 ^ k) e ∙ sym (corner_quotient k y) in
    let b = corner_has k y in
    (omega (arith, b.0), omega (arith, b.1))

-- what two numbers differ in above the lowest 2 * k bits
xor_above : (k z y : ℕ) → bit_xor z y / 4 ^ k ≡ bit_xor (z / 4 ^ k) (y / 4 ^ k)
xor_above k z y = rw (← twice k) (xor_shr z y (2 * k))

room_without : (z y k : ℕ) → Room (bit_xor z y) k → Without z y k
room_without z y k room = record { short = short; over = quotient_has (suc k) z y (xor_same _ _ (sym (xor_above (suc k) z y) ∙ div-eq_of_lt room.more)) }
  where
    x : ℕ
    x = bit_xor z y

    short : Has k z y → ⊥
    short h =
        let e : x / 4 ^ k ≡ 0 = xor_above k z y ∙ ap (λ (q : ℕ). bit_xor q (y / 4 ^ k)) (has_quotient k z y h) ∙ xor_self (y / 4 ^ k) in
        omega (arith, rw e at (div-add-mod' x (4 ^ k)), mod-lt x (area_pos k), room.fits)

module _ (z y : ℕ) (differ : z ≡ y → ⊥) where
  pub xor_some : 0 < bit_xor z y
  xor_some = elim (dec_lt 0 (bit_xor z y)) [ yes h ↦ h | no h ↦ absurd (differ (xor_same z y (omega arith))) ]

  pub without_half : z < 2 ^ 32 → y < 2 ^ 32 → Without z y ((31 - count_leading_zeros 32 (bit_xor z y)) / 2)
  without_half h g = room_without z y _ (room_size (bit_xor z y) xor_some (xor_lt 32 z y h g))
