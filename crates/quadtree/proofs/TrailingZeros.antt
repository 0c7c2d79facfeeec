-- The trailing zeros of a number: the largest power of two that divides it, and so the largest block that starts or ends at it.
--     tz_divides   each power of two up to the trailing zeros divides
--     tz_odd       what lies above the zeros is odd
--     twice        a power of four as one of two
--     levels_half  blocks start and end at e up to the size of half its trailing zeros, and no larger one
use mathlib.Core.Path.{◌≡◌, ◌∙◌, refl, ap, sym}
use Prim.Native.Nat.{ℕ, zero, suc, ◌+◌, ◌-◌, ◌*◌, ◌/◌, ◌%◌, ◌^◌, ◌<◌, ◌≤◌}
use native.Mathlib.Nat.{mul-one, div-one, pow-suc, pow-succ', div-div-eq-div-mul, mul_left_comm, mul-mod_left, mul_assoc, div-add-mod'}
use native.Mathlib.Omega.{arith}
use lib.Pow.{pow-add, shl-shr}
use lib.Count.{count_trailing_zeros, under}
use Rattle.tile.specs.Tile.{highest_order}
use Rattle.quadtree.specs.Raster.{Aligned}
use Rattle.quadtree.proofs.Alignment.{size_le, aligned_zero, aligned_gap}
use Rattle.quadtree.specs.Tiling.{Levels}

tz_div : (d n : ℕ) → n / 2 ^ count_trailing_zeros d n * 2 ^ count_trailing_zeros d n ≡ n
unfolding count_trailing_zeros
tz_div zero n = mul-one (n / 1) ∙ div-one n
tz_div (suc d) n = go (n % 2) refl (tz_div d (n / 2))
  where
    go : (r : ℕ) → n % 2 ≡ r → n / 2 / 2 ^ count_trailing_zeros d (n / 2) * 2 ^ count_trailing_zeros d (n / 2) ≡ n / 2
        → n / 2 ^ under r (count_trailing_zeros d (n / 2)) * 2 ^ under r (count_trailing_zeros d (n / 2)) ≡ n
    go zero e ih = rw (pow-succ' 2, ← div-div-eq-div-mul n 2, mul_left_comm, ih) (omega arith)
    go (suc r) e ih = mul-one (n / 1) ∙ div-one n

pub tz_odd : (d q : ℕ) → 0 < q → q < 2 ^ d → q / 2 ^ count_trailing_zeros d q % 2 ≡ 1
unfolding count_trailing_zeros
tz_odd zero q h k = omega arith
tz_odd (suc d) q h k =
    let k' = rw (pow-suc 2 d) at k in
    go (q % 2) refl (λ (e : q % 2 ≡ 0). tz_odd d (q / 2) (omega arith) (omega arith))
  where
    go : (r : ℕ) → q % 2 ≡ r → (q % 2 ≡ 0 → q / 2 / 2 ^ count_trailing_zeros d (q / 2) % 2 ≡ 1) → q / 2 ^ under r (count_trailing_zeros d (q / 2)) % 2 ≡ 1
    go zero e ih = rw (pow-succ' 2, ← div-div-eq-div-mul q 2) (ih e)
    go (suc r) e ih = rw (div-one) (omega arith)

pub tz_divides : (d n i : ℕ) → i ≤ count_trailing_zeros d n → n % 2 ^ i ≡ 0
tz_divides d n i h =
    let t = count_trailing_zeros d n in
    let e : t ≡ (t - i) + i = omega arith in
    let s : n ≡ n / 2 ^ t * 2 ^ (t - i) * 2 ^ i = sym (tz_div d n) ∙ ap (λ (x : ℕ). n / 2 ^ t * x) (ap (λ (x : ℕ). 2 ^ x) e ∙ pow-add 2 (t - i) i) ∙ sym (mul_assoc (n / 2 ^ t) (2 ^ (t - i)) (2 ^ i)) in
    ap (λ (x : ℕ). x % 2 ^ i) s ∙ mul-mod_left (n / 2 ^ t * 2 ^ (t - i)) (2 ^ i)

pub twice : (n : ℕ) → 2 ^ (2 * n) ≡ 4 ^ n
twice zero = refl
twice (suc n) = let e : 2 * suc n ≡ suc (suc (2 * n)) = omega arith in rw e (omega (arith, twice n))

module _ (x : ℕ) (pos : 0 < x) (fits : x < 2 ^ 32) where
  abbrev zeros : ℕ
  zeros = count_trailing_zeros 32 x

  upto : (l : ℕ) → 2 * l ≤ zeros → Aligned l x
  upto l h = record { times = x / 4 ^ l; is = rw (← twice l) (omega (arith, div-add-mod' x (2 ^ (2 * l)), tz_divides 32 x (2 * l) h)) }

  -- a power of two past the trailing zeros would leave an even number
  past : (l : ℕ) → zeros < 2 * l → Aligned l x → ⊥
  past l h m =
      let d : 2 * l ≡ (2 * l - zeros - 1) + (zeros + 1) = omega arith in
      let t = m.times * 2 ^ (2 * l - zeros - 1) in
      let p : 2 ^ (2 * l) ≡ 2 ^ (2 * l - zeros - 1) * 2 ^ (zeros + 1) = ap (λ (y : ℕ). 2 ^ y) d ∙ pow-add 2 (2 * l - zeros - 1) (zeros + 1) in
      let u : 2 ^ (zeros + 1) ≡ 2 ^ zeros * 2 = pow-add 2 zeros 1 in
      let e : x ≡ t * 2 * 2 ^ zeros = m.is ∙ ap (λ (y : ℕ). m.times * y) (sym (twice l) ∙ p) ∙ sym (mul_assoc m.times _ _) ∙ omega (arith, ap (λ (y : ℕ). t * y) u) in
      let q : x / 2 ^ zeros ≡ t * 2 = ap (λ (y : ℕ). y / 2 ^ zeros) e ∙ shl-shr (t * 2) zeros in
      omega (arith, tz_odd 32 x pos fits)

pub levels_half : (e : ℕ) → 0 < e → e ≤ 4 ^ highest_order → Levels e (count_trailing_zeros 32 e / 2)
levels_half e pos h =
    let l = count_trailing_zeros 32 e / 2 in
    let m = upto e pos (omega arith) l (omega arith) in
    record {
      few = size_le l highest_order (omega (arith, aligned_gap (aligned_zero l) m pos));
      ends = m;
      over = past e pos (omega arith) (suc l) (omega arith);
    }
