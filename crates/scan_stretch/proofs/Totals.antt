-- Sums over a stretch of numbers.
--     total_none, total_start, total_more, total_next   a sum, number by number
--     total_add, total_join                and stretch by stretch
--     total_same                           sums of the same numbers
--     total_most                           a sum of numbers that are each at most so much
--     total_one                            sums that differ by one at one place only
use mathlib.Core.Path.{◌≡◌, refl}
use mathlib.Core.Logic.{◌⊎◌, inl, inr}
use Prim.Native.Nat.{ℕ, zero, suc, ◌+◌, ◌-◌, ◌*◌, ◌≤◌, ◌<◌}
use native.Mathlib.Omega.{arith}
use Rattle.scan_stretch.specs.Weight.{total}

pub total_none : (g : ℕ → ℕ) (lo : ℕ) → 0 ≡ total g lo (lo - lo)
unfolding total
total_none g lo = let e : lo - lo ≡ 0 = omega arith in rw e

pub total_start : (g : ℕ → ℕ) → 0 ≡ total g 0 0
unfolding total
total_start g = refl

pub total_more : (g : ℕ → ℕ) (lo i c x : ℕ) → lo ≤ i → c ≡ total g lo (i - lo) → x ≡ g i → c + x ≡ total g lo (i + 1 - lo)
unfolding total
total_more g lo i c x l e q =
    let a : i + 1 - lo ≡ suc (i - lo) = omega arith in
    let b : lo + (i - lo) ≡ i = omega arith in
    rw (a, b) (omega (arith, e, q))

pub total_next : (g : ℕ → ℕ) (i c x : ℕ) → c ≡ total g 0 i → x ≡ g i → c + x ≡ total g 0 (i + 1)
total_next g i c x e q = let a : i - 0 ≡ i = omega arith in let b : i + 1 - 0 ≡ i + 1 = omega arith in rw b at (total_more g 0 i c x (omega arith) (rw a e) q)

pub total_add : (g : ℕ → ℕ) (lo a b : ℕ) → total g lo a + total g (lo + a) b ≡ total g lo (a + b)
unfolding total
total_add g lo a zero = (let e : a + 0 ≡ a = omega arith in rw e (omega arith))
total_add g lo a (suc b) =
    let e : a + suc b ≡ suc (a + b) = omega arith in
    let f : lo + a + b ≡ lo + (a + b) = omega arith in
    rw (e, f) (omega (arith, total_add g lo a b))

pub total_join : (g : ℕ → ℕ) (lo mid hi c x : ℕ) → lo ≤ mid → mid ≤ hi → c ≡ total g lo (mid - lo) → x ≡ total g mid (hi - mid) → c + x ≡ total g lo (hi - lo)
total_join g lo mid hi c x l h ec ex =
    let a : lo + (mid - lo) ≡ mid = omega arith in
    let b : mid - lo + (hi - mid) ≡ hi - lo = omega arith in
    omega (arith, ec, ex, rw (a, b) at (total_add g lo (mid - lo) (hi - mid)))

pub total_same : (f g : ℕ → ℕ) (p q n : ℕ) → ((i : ℕ) → i < n → f (p + i) ≡ g (q + i)) → total f p n ≡ total g q n
unfolding total
total_same f g p q zero e = refl
total_same f g p q (suc n) e = rw (e n (omega arith), total_same f g p q n (λ i h. e i (omega arith)))

pub total_most : (g : ℕ → ℕ) (m lo n : ℕ) → ((i : ℕ) → g i ≤ m) → total g lo n ≤ n * m
unfolding total
total_most g m lo zero h = omega arith
total_most g m lo (suc n) h = omega (arith, total_most g m lo n h, h (lo + n))

total_le : (w v : ℕ → ℕ) (lo n : ℕ) → ((j : ℕ) → lo ≤ j → j < lo + n → w j ≤ v j) → total w lo n ≤ total v lo n
unfolding total
total_le w v lo zero h = omega arith
total_le w v lo (suc n) h = omega (arith, total_le w v lo n (λ j l u. h j l (omega arith)), h (lo + n) (omega arith) (omega arith))

pub total_one : (w v : ℕ → ℕ) (lo n k : ℕ) → ((j : ℕ) → lo ≤ j → j < lo + n → (w j ≤ v j) ⊎ ((w j ≤ v j + 1) × (j ≡ k))) → total w lo n ≤ total v lo n + 1
unfolding total
total_one w v lo zero k h = omega arith
total_one w v lo (suc n) k h = elim (h (lo + n) (omega arith) (omega arith)) [
  | inl x ↦ omega (arith, total_one w v lo n k (λ j l u. h j l (omega arith)))
  | inr x ↦ omega (arith, x.0, total_le w v lo n (λ j l u. elim (h j l (omega arith)) [ inl y ↦ y | inr y ↦ absurd (omega (arith, x.1, y.1)) ]))
]
