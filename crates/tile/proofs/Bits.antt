-- What the shifts of the code compute: the areas of tiles and the word of three fields.
--     two_four     an even power of two is a power of four
--     shift_area   1 shifted by twice a size is the area of that size
--     pack_word    three fields shifted to their places and joined are the tile's word
--     stop_fits    a tile of any word ends below 2 ^ 32
use mathlib.Core.Path.{◌≡◌, refl}
use Prim.Native.Nat.{ℕ, zero, suc, ◌+◌, ◌*◌, ◌%◌, ◌^◌, ◌≤◌, ◌<◌}
use native.Mathlib.Nat.{pow-suc, pow-le-pow_right}
use native.Mathlib.Omega.{arith}
use lib.Bits.{bit_or, or_shifted}
use Rattle.tile.specs.Tile.{tile, tile_of, word_of, highest_order, highest_account}

pub two_four : (n : ℕ) → 2 ^ (2 * n) ≡ 4 ^ n
two_four zero = refl
two_four (suc n) =
    let e : 2 * suc n ≡ suc (suc (2 * n)) = omega arith in
    rw (e, pow-suc 2 (suc (2 * n)), pow-suc 2 (2 * n), pow-suc 4 n) (omega (arith, two_four n))

pub shift_area : (k : ℕ) → k ≤ 15 → 1 * 2 ^ (2 * k) % 2 ^ 32 ≡ 4 ^ k
shift_area k h =
    let l : 4 ^ k ≤ 4 ^ 15 = pow-le-pow_right (omega arith) h in
    omega (arith, two_four k)

pub pack_word : (c k a : ℕ) → c < 4 ^ highest_order → k ≤ highest_order → a ≤ highest_account → bit_or (bit_or (c * 2 ^ 10 % 2 ^ 32) (k * 2 ^ 6 % 2 ^ 32)) a ≡ word_of (tile c k a)
unfolding word_of
pack_word c k a hc hk ha =
    let m : c * 2 ^ 10 % 2 ^ 32 ≡ c * 2 ^ 10 = omega arith in
    let n : k * 2 ^ 6 % 2 ^ 32 ≡ k * 2 ^ 6 = omega arith in
    let e : c * 2 ^ 10 + k * 2 ^ 6 ≡ (c * 2 ^ 4 + k) * 2 ^ 6 = omega arith in
    rw (m, n, or_shifted c 10 (k * 2 ^ 6) (omega arith), e, or_shifted (c * 2 ^ 4 + k) 6 a (omega arith)) (omega arith)

pub stop_fits : (w c k s : ℕ) → w < 2 ^ 32 → c ≡ (tile_of w).corner → k ≡ (tile_of w).size → s ≡ 4 ^ k → c + s < 2 ^ 32
unfolding tile_of
stop_fits w c k s h ec ek es =
    let l : 4 ^ k ≤ 4 ^ 15 = pow-le-pow_right (omega arith) {j = 15} (omega arith) in
    omega arith
