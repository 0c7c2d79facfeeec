-- How long a list grows by a stretch of Morton numbers, whole quads: at most by a tile for each.
--     line_length   of any raster that differs from another there alone
use mathlib.Core.Path.{◌≡◌}
use Prim.Native.Nat.{ℕ, zero, suc, ◌+◌, ◌*◌, ◌^◌, ◌≤◌, ◌<◌}
use native.Mathlib.Omega.{arith}
use lib.ListN.{length}
use Rattle.quadtree.specs.Raster.{Aligned}
use Rattle.quadtree.specs.Quadtree.{quadtree, blocks}
use Rattle.bed.specs.declared.Kind.TheVariants.{Morton}
use Rattle.bed.specs.Places.{pixel_at, place_of}
use Rattle.scan_stretch.proofs.Totals.{total_most}
use Rattle.scan_stretch.proofs.Quads.{one_most, quad_ones, quads_length}

quad_four : (e : ℕ → ℕ) (c : ℕ) → length (blocks e 1 c) ≤ 4
quad_four e c = omega (arith, quad_ones e c, one_most (e c), one_most (e (c + 1)), one_most (e (c + 2)), one_most (e (c + 3)))

module _ (f h : ℕ → ℕ) (p len : ℕ) (ap : Aligned 1 p) (al : Aligned 1 len) where
  pub line_length : (n : ℕ) → p + len ≤ 4 ^ n → 0 < len → ((z : ℕ) → p ≤ z → z < p + len → f z ≡ 0) → ((z : ℕ) → z < p → h z ≡ f z) → ((z : ℕ) → z < 4 ^ n → p + len ≤ z → h z ≡ f z) →
      length (quadtree n h) ≤ length (quadtree n f) + len
  unfolding place_of pixel_at
  line_length zero room some blank ahead behind = absurd (omega (arith, al.is))
  line_length (suc n) room some blank ahead behind =
      let q = quads_length Morton n h ap.times f al.times (omega (arith, ap.is, al.is)) (λ z b l u. blank z (omega (arith, ap.is)) (omega (arith, ap.is, al.is))) (λ z b l. ahead z (omega (arith, ap.is))) (λ z b l. behind z b (omega (arith, ap.is, al.is))) in
      omega (arith, al.is, q, total_most (λ j. length (blocks h 1 (pixel_at Morton n j * 4))) 4 ap.times al.times (λ j. quad_four h (pixel_at Morton n j * 4)))
