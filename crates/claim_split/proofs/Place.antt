-- The place of a block among the four quadrants of its parent, and merging by index: `lo` tiles of a list stand ahead of a tile,
-- and those from `hi` on behind it.
--     Place k c i p      the block of size k at c is quadrant i of the block of size k + 1 at p
--     place              which one it is, computed
--     place_unique       it is only one
--     between_merge_at   where the tile's three siblings stand next to it, the four can be dropped for their parent
--     apart_at           where they do not, the tile is apart
use mathlib.Core.Path.{◌≡◌, ap, sym, ◌∙◌}
use mathlib.Core.List.{List, ◌++◌}
use Prim.Native.Nat.{ℕ, suc, ◌+◌, ◌-◌, ◌*◌, ◌/◌, ◌%◌, ◌^◌, ◌≤◌}
use native.Mathlib.Omega.{arith}
use native.Mathlib.Nat.{mul-le-mul_right, mul-div_cancel, add-mul, mul_assoc, mul_left_comm}
use lib.ListN.{length, take, drop, length-append, length-drop, take-append-drop}
use lib.Seq.{take-add, drop-drop, drop_at, take_at, length-take-le}
use Rattle.tile.specs.declared.Tile.{Tile}
use Rattle.tile.specs.Tile.{tile}
use Rattle.quadtree.specs.Raster.{Aligned}
use Rattle.quadtree.proofs.Alignment.{aligned_gap, area_pos, cmp, below, same, above}
use Rattle.quadtree.specs.Tiling.{equal_tiles, Between, Apart}
use Rattle.quadtree.proofs.Merge.{equal_tiles_length, between_merge}

pub record Place (k c i p : ℕ) : Type 0 where
  pub four : i ≤ 3
  pub from : c ≡ p + i * 4 ^ k
  pub aligned : Aligned (suc k) p

pub place_unique : {k c i p j q : ℕ} → Place k c i p → Place k c j q → (i ≡ j) × (p ≡ q)
place_unique {k} {c} {i} {p} {j} {q} x y =
    let u : i * 4 ^ k ≤ 3 * 4 ^ k = mul-le-mul_right (4 ^ k) x.four in
    let v : j * 4 ^ k ≤ 3 * 4 ^ k = mul-le-mul_right (4 ^ k) y.four in
    let pos = area_pos k in
    let e : p ≡ q = elim (cmp p q) [ below b ↦ absurd (omega (arith, aligned_gap x.aligned y.aligned b)) | same e ↦ e | above b ↦ absurd (omega (arith, aligned_gap y.aligned x.aligned b)) ] in (
      elim (cmp i j) [
        | below b ↦ absurd (let w : suc i * 4 ^ k ≤ j * 4 ^ k = mul-le-mul_right (4 ^ k) b in omega arith)
        | same e ↦ e
        | above b ↦ absurd (let w : suc j * 4 ^ k ≤ i * 4 ^ k = mul-le-mul_right (4 ^ k) b in omega arith)
      ],
      e,
    )

pub place : (k c : ℕ) → Aligned k c → Place k c (c / 4 ^ k % 4) (c - c / 4 ^ k % 4 * 4 ^ k)
place k c m = go m.times m.is (c / 4 ^ k) (ap (λ (x : ℕ). x / 4 ^ k) m.is ∙ mul-div_cancel m.times (area_pos k))
  where
    go : (q : ℕ) → c ≡ q * 4 ^ k → (d : ℕ) → d ≡ q → Place k c (d % 4) (c - d % 4 * 4 ^ k)
    go q e d f =
        let w : q * 4 ^ k ≡ 4 * (q / 4 * 4 ^ k) + q % 4 * 4 ^ k = ap (λ (x : ℕ). x * 4 ^ k) (omega arith) ∙ add-mul (4 * (q / 4)) (q % 4) (4 ^ k) ∙ ap (λ (x : ℕ). x + q % 4 * 4 ^ k) (mul_assoc 4 (q / 4) (4 ^ k)) in
        let y : 4 ^ suc k ≡ 4 * 4 ^ k = omega arith in
        let z : q / 4 * 4 ^ suc k ≡ 4 * (q / 4 * 4 ^ k) = ap (λ (x : ℕ). q / 4 * x) y ∙ mul_left_comm (q / 4) 4 (4 ^ k) in
        rw f (record { four = omega arith; from = omega arith; aligned = record { times = q / 4; is = omega arith } })

module _ (ts : List Tile) (lo hi : ℕ) (l : lo ≤ length ts) (h : hi ≤ length ts) (k a c i p : ℕ) (x : Place k c i p) where
  pub between_merge_at : {g : ℕ → ℕ} {n : ℕ} → Between g n (take lo ts) (drop hi ts) (tile c k a) → i ≤ lo →
      take i (drop (lo - i) ts) ≡ equal_tiles k a i p → take (3 - i) (drop hi ts) ≡ equal_tiles k a (3 - i) (c + 4 ^ k) → Between g n (take (lo - i) ts) (drop (hi + (3 - i)) ts) (tile p (suc k) a)
  between_merge_at {g} {n} t b ea eb = between_merge (take (lo - i) ts) (drop (hi + (3 - i)) ts) k a i (3 - i) c p (omega (arith, x.four)) x.from x.aligned (rw (← ea, ← eb, ← take-add (lo - i) i ts, u, ← drop-drop (3 - i) hi ts, take-append-drop) t)
    where
      u : lo - i + i ≡ lo
      u = omega arith

  pub apart_at : (i ≤ lo → 3 - i ≤ length ts - hi → take i (drop (lo - i) ts) ≡ equal_tiles k a i p → take (3 - i) (drop hi ts) ≡ equal_tiles k a (3 - i) (c + 4 ^ k) → ⊥) → Apart (take lo ts) (drop hi ts) (tile c k a)
  apart_at never j q s r f m e ea eb = go (place_unique (record { four = f; from = e; aligned = m }) x)
    where
      go : (j ≡ i) × (q ≡ p) → ⊥
      go w = never (omega (arith, lens)) (omega (arith, ap length eb, length-append (equal_tiles k a (3 - j) (c + 4 ^ k)) r, equal_tiles_length k a (3 - j) (c + 4 ^ k), length-drop hi ts))
          (sym (drop_at (take (lo - i) ts) (take i (drop (lo - i) ts)) (lo - i) (length-take-le (lo - i) ts (omega arith))) ∙ ap (λ (y : List Tile). drop (lo - i) y) (sym (take-add (lo - i) i ts) ∙ ap (λ (y : ℕ). take y ts) back ∙ ea ∙ ap (λ (y : List Tile). s ++ y) (rw (w.0, w.1))) ∙ drop_at s (equal_tiles k a i p) (lo - i) (omega (arith, lens)))
          (ap (λ (y : List Tile). take (3 - i) y) (rw w.0 at eb) ∙ take_at (equal_tiles k a (3 - i) (c + 4 ^ k)) r (3 - i) (equal_tiles_length k a (3 - i) (c + 4 ^ k)))
        where
          lens : lo ≡ length s + j
          lens = sym (length-take-le lo ts l) ∙ ap length ea ∙ length-append s (equal_tiles k a j q) ∙ ap (λ (y : ℕ). length s + y) (equal_tiles_length k a j q)

          back : lo - i + i ≡ lo
          back = omega (arith, lens)
