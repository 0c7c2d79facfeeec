-- Stretches cut into blocks, block by block.
--     largest_greedy      `largest` is such a size
--     greedy_same         there is one such size
--     cut_step            the first block of a stretch, and the rest cut
--     cut_end             nothing is left to cut
--     cut_nobody          nobody's stretch has no tile
use mathlib.Core.Path.{◌≡◌, refl, ap, ◌∙◌, sym}
use mathlib.Core.List.{List, [], ◌∷◌}
use Prim.Native.Nat.{ℕ, zero, suc, ◌+◌, ◌-◌, ◌^◌, ◌≤◌, ◌<◌}
use native.Mathlib.Omega.{arith}
use Rattle.basics.proofs.Tests.{test_leb, test_and, by_test, choose_yes, choose_no}
use Rattle.tile.specs.declared.Tile.{Tile}
use Rattle.tile.specs.Tile.{tile}
use Rattle.quadtree.specs.Raster.{Aligned}
use Rattle.quadtree.proofs.Alignment.{cmp, below, same, above, area_pos, area_mono, aligned_unit, aligned_down, test_aligned}
use Rattle.quadtree.specs.Runs.{Greedy, largest, cut_in, cut}

largest_below : (n lo hi : ℕ) → lo < hi → (Aligned (suc n) lo → lo + 4 ^ suc n ≤ hi → ⊥) → Greedy lo hi (largest n lo hi)
unfolding largest
largest_below zero lo hi h t = record { aligned = aligned_unit lo; fits = omega arith; top = t }
largest_below (suc k) lo hi h t = by_test (Greedy lo hi) (test_and (test_aligned (suc k) lo) (test_leb (lo + 4 ^ suc k) hi))
    (λ p. record { aligned = p.0; fits = p.1; top = t })
    (λ p. largest_below k lo hi h (λ a b. p (a, b)))

pub largest_greedy : (n lo hi : ℕ) → lo < hi → hi ≤ 4 ^ n → Greedy lo hi (largest n lo hi)
largest_greedy n lo hi h l = largest_below n lo hi h (λ a b. omega (arith, area_pos n))

greedy_below : {lo hi j k : ℕ} → Greedy lo hi j → Greedy lo hi k → j < k → ⊥
greedy_below {lo} {hi} {j} {k} p q h = p.top (aligned_down h q.aligned) (let g : 4 ^ suc j ≤ 4 ^ k = area_mono h in omega (arith, q.fits))

pub greedy_same : {lo hi j k : ℕ} → Greedy lo hi j → Greedy lo hi k → j ≡ k
greedy_same {j = j} {k} p q = elim (cmp j k) [ below h ↦ absurd (greedy_below p q h) | same e ↦ e | above h ↦ absurd (greedy_below q p h) ]

cut_in_end : (m n lo hi a : ℕ) → hi ≤ lo → cut_in m n lo hi a ≡ []
unfolding cut_in
cut_in_end zero n lo hi a h = refl
cut_in_end (suc m) n lo hi a h = choose_yes [] (tile lo (largest n lo hi) a ∷ cut_in m n (lo + 4 ^ largest n lo hi) hi a) (test_leb hi lo) h

cut_in_step : (m n lo hi a : ℕ) → lo < hi → cut_in (suc m) n lo hi a ≡ tile lo (largest n lo hi) a ∷ cut_in m n (lo + 4 ^ largest n lo hi) hi a
unfolding cut_in
cut_in_step m n lo hi a h = choose_no [] (tile lo (largest n lo hi) a ∷ cut_in m n (lo + 4 ^ largest n lo hi) hi a) (test_leb hi lo) (λ l. omega arith)

-- more blocks than numbers are never asked for
cut_in_enough : (m p n lo hi a : ℕ) → hi ≤ lo + m → hi ≤ lo + p → cut_in m n lo hi a ≡ cut_in p n lo hi a
cut_in_enough zero p n lo hi a h g = cut_in_end zero n lo hi a (omega arith) ∙ sym (cut_in_end p n lo hi a (omega arith))
cut_in_enough (suc m) zero n lo hi a h g = cut_in_end (suc m) n lo hi a (omega arith) ∙ sym (cut_in_end zero n lo hi a (omega arith))
cut_in_enough (suc m) (suc p) n lo hi a h g = elim (cmp lo hi) [
  | below l ↦
      let k = largest n lo hi in
      let e = cut_in_enough m p n (lo + 4 ^ k) hi a (omega (arith, area_pos k)) (omega (arith, area_pos k)) in
      cut_in_step m n lo hi a l ∙ ap (λ (ts : List Tile). tile lo k a ∷ ts) e ∙ sym (cut_in_step p n lo hi a l)
  | same l ↦ cut_in_end (suc m) n lo hi a (omega arith) ∙ sym (cut_in_end (suc p) n lo hi a (omega arith))
  | above l ↦ cut_in_end (suc m) n lo hi a (omega arith) ∙ sym (cut_in_end (suc p) n lo hi a (omega arith))
]

pub cut_nobody : (n lo hi : ℕ) → cut n lo hi 0 ≡ []
unfolding cut
cut_nobody n lo hi = refl

pub cut_end : (n lo hi a : ℕ) → hi ≤ lo → cut n lo hi a ≡ []
unfolding cut
cut_end n lo hi zero h = refl
cut_end n lo hi (suc a) h = cut_in_end (hi - lo) n lo hi (suc a) h

pub cut_step : (n : ℕ) {lo hi k : ℕ} (a : ℕ) → 0 < a → lo < hi → hi ≤ 4 ^ n → Greedy lo hi k → cut n lo hi a ≡ tile lo k a ∷ cut n (lo + 4 ^ k) hi a
unfolding cut
cut_step n zero o h l g = absurd (omega arith)
cut_step n {lo} {hi} {k} (suc a) o h l g =
    let e : largest n lo hi ≡ k = greedy_same (largest_greedy n lo hi h l) g in
    let s : hi - lo ≡ suc (hi - lo - 1) = omega arith in
    ap (λ (m : ℕ). cut_in m n lo hi (suc a)) s
    ∙ cut_in_step (hi - lo - 1) n lo hi (suc a) h
    ∙ ap (λ (j : ℕ). tile lo j (suc a) ∷ cut_in (hi - lo - 1) n (lo + 4 ^ j) hi (suc a)) e
    ∙ ap (λ (ts : List Tile). tile lo k (suc a) ∷ ts) (cut_in_enough (hi - lo - 1) (hi - (lo + 4 ^ k)) n (lo + 4 ^ k) hi (suc a) (omega (arith, area_pos k)) (omega arith))
