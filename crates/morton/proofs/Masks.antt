-- What the masks and shifts of the code do: a test of each number of `side_bits` bits, computed.
--     spreads x        the four steps of `spread`, after its first mask
--     gathers x        the four steps of `column_of`, after its first mask
--     spreads_morton   `spread` gives the Morton number of column x in row 0
--     evens_column     the mask of the even places keeps the column
--     gathers_column   `column_of` gives the column
--     join_morton      `number` gives the Morton number
use mathlib.Core.Path.{◌≡◌, refl, ◌∙◌}
use mathlib.Core.Bool.{Bool}
use Prim.Native.Nat.{ℕ, zero, suc, ◌+◌, ◌*◌, ◌/◌, ◌%◌, ◌^◌, ◌<◌}
use native.Mathlib.Omega.{arith}
use native.Mathlib.Nat.{mod-lt, div-add-mod'}
use lib.Dec.{eqb, eqb→eq}
use lib.Bits.{bit_and, bit_or, and_block, or_block, and_mask, and_zero_r, or_shifted_r}
use Rattle.basics.proofs.Computed.{at}
use Rattle.morton.specs.Morton.{morton, column, side_bits}
use Rattle.morton.proofs.MortonLaws.{column_lt, morton_lt, morton_low, morton_sum}

-- x joined with itself k places higher, under the mask m
abbrev outward : ℕ → ℕ → ℕ → ℕ
outward k m x = bit_and (bit_or x (x * 2 ^ k % 2 ^ 32)) m

-- x joined with itself k places lower, under the mask m
abbrev inward : ℕ → ℕ → ℕ → ℕ
inward k m x = bit_and (bit_or x (x / 2 ^ k)) m

abbrev pub spreads : ℕ → ℕ
spreads x = outward 1 0x55555 (outward 2 0x33333 (outward 4 0x30f0f (outward 8 0x300ff x)))

abbrev pub gathers : ℕ → ℕ
gathers x = inward 8 0x3ff (inward 4 0x300ff (inward 2 0x30f0f (inward 1 0x33333 x)))

spreads_right : ℕ → Bool
unfolding morton
spreads_right x = eqb (spreads x) (morton side_bits x 0)

gathers_right : ℕ → Bool
unfolding morton
gathers_right x = eqb (gathers (morton side_bits x 0)) x

spreads_small : (x : ℕ) → x < 2 ^ side_bits → spreads x ≡ morton side_bits x 0
unfolding spreads_right
spreads_small x h = eqb→eq (spreads x) (morton side_bits x 0) (at spreads_right (2 ^ side_bits) tt x h)

gathers_small : (x : ℕ) → x < 2 ^ side_bits → gathers (morton side_bits x 0) ≡ x
unfolding gathers_right
gathers_small x h = eqb→eq (gathers (morton side_bits x 0)) x (at gathers_right (2 ^ side_bits) tt x h)

pub spreads_morton : (x : ℕ) → spreads (bit_and x 0x3ff) ≡ morton side_bits x 0
spreads_morton x = rw (and_mask x side_bits) (spreads_small (x % 2 ^ side_bits) (mod-lt x (omega arith)) ∙ morton_low side_bits x 0)

-- the mask of the k lowest even places
abbrev pub evens : ℕ → ℕ
evens zero = 0
evens (suc k) = evens k * 4 + 1

pub evens_column : (k z : ℕ) → bit_and z (evens k) ≡ morton k (column k z) 0
unfolding morton column
evens_column zero z = and_zero_r z
evens_column (suc k) z =
    let b = and_block 2 (z / 4) (evens k) (z % 4) 1 (mod-lt z (omega arith)) (omega arith) in
    let e : bit_and z (evens k * 4 + 1) ≡ bit_and (z / 4) (evens k) * 4 + bit_and (z % 4) 1 = rw (div-add-mod' z 4) at b in
    let f : column (suc k) z / 2 ≡ column k (z / 4) = omega arith in
    rw f (omega (arith, e, and_mask (z % 4) 1, evens_column k (z / 4)))

pub gathers_column : (z : ℕ) → gathers (bit_and z 0x55555) ≡ column side_bits z
gathers_column z = rw (evens_column side_bits z) (gathers_small (column side_bits z) (column_lt side_bits z))

or_sum : (n c r : ℕ) → bit_or (morton n c 0) (morton n r 0 * 2) ≡ morton n c 0 + 2 * morton n r 0
unfolding morton
or_sum zero c r = refl
or_sum (suc n) c r =
    let b = or_block 2 (morton n (c / 2) 0) (morton n (r / 2) 0 * 2) (c % 2) (r % 2 * 2) (omega arith) (omega arith) in
    let e : morton n (c / 2) 0 * 2 ^ 2 + c % 2 ≡ morton (suc n) c 0 = omega arith in
    let f : morton n (r / 2) 0 * 2 * 2 ^ 2 + r % 2 * 2 ≡ morton (suc n) r 0 * 2 = omega arith in
    let g = rw (e, f) at b in
    omega (arith, g, or_shifted_r (r % 2) 1 (c % 2) (omega arith), or_sum n (c / 2) (r / 2))

pub join_morton : (c r : ℕ) → bit_or (morton side_bits c 0) (morton side_bits r 0 * 2 % 2 ^ 32) ≡ morton side_bits c r
join_morton c r =
    let l = morton_lt side_bits r 0 in
    let e : morton side_bits r 0 * 2 % 2 ^ 32 ≡ morton side_bits r 0 * 2 = omega arith in
    rw e (omega (arith, or_sum side_bits c r, morton_sum side_bits c r))
