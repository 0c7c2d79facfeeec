-- Lists on the way through a block of a band that is put in Morton order, counted by quads.
--     block_way      of each quad of the band the first accounts are put, and of one quad at most just three
--     block_length   so the list is no longer than the old one, the quads' weights and one
use mathlib.Core.Path.{◌≡◌, refl, ap, sym, ◌∙◌}
use mathlib.Core.Logic.{inl, inr}
use Prim.Native.Nat.{ℕ, suc, ◌+◌, ◌*◌, ◌/◌, ◌%◌, ◌^◌, ◌≤◌, ◌<◌}
use native.Mathlib.Decide.{dec_lt}
use native.Mathlib.Omega.{arith}
use lib.ListN.{length}
use Rattle.morton.specs.Morton.{column}
use Rattle.quadtree.specs.Quadtree.{quadtree}
use Rattle.quadtree.proofs.Alignment.{aligned_gap, aligned_down}
use Rattle.bed.specs.Places.{pixel_at, place_of}
use Rattle.bed.specs.declared.Kind.TheVariants.{Rows}
use Rattle.bed.proofs.PlaceLaws.{pixel_at_lt, place_of_pixel_at}
use Rattle.scan_stretch.specs.Stretch.{Blank}
use Rattle.scan_stretch.specs.Weight.{total}
use Rattle.scan_stretch.proofs.Quads.{filled0, filled1, filled2, filled3, filled4}
use Rattle.scan_block.specs.Blocks.{mixed}
use Rattle.scan_block.proofs.Advance.{mixed_in, mixed_out}
use Rattle.scan_ways.proofs.Geometry.{Block, rows_of, places_upto}
use Rattle.scan_ways.proofs.Parts.{Part, ahead_mixed, behind_mixed}
use Rattle.scan_ways.proofs.Ways.{Cut, Way, weight_at, way_length, row_quad, quad_ahead, quad_behind, quad_inside}

column_quad : (m z : ℕ) → column (suc m) z ≡ 2 * column m (z / 4) + z % 2
unfolding column
column_quad m z = refl

-- a block of size k + 1 of the band of 2 ^ (k + 1) rows from the row 2 r on, put up to y
module _ (m k r v c : ℕ) (f g h : ℕ → ℕ) (b : Block (suc m) (suc k) (2 * v) (2 * r) c) (w : Part (suc m) (2 * r * 2 ^ suc m) (2 ^ suc k * 2 ^ suc m) (2 * v) f g h)
    (blank : Blank Rows (suc m) (2 * r * 2 ^ suc m) f) (room : r * 2 ^ m + 2 ^ k * 2 ^ m ≤ 4 ^ m) (y : ℕ) (hy : y ≤ c + 4 ^ suc k) where
  abbrev onto : ℕ → ℕ
  onto z = g (place_of Rows (suc m) z)

  abbrev e : ℕ → ℕ
  e = mixed h onto c y

  module _ (j : ℕ) (jl : r * 2 ^ m ≤ j) (ju : j < r * 2 ^ m + 2 ^ k * 2 ^ m) where
    abbrev a : ℕ
    a = pixel_at Rows m j * 4

    low : (d : ℕ) → d < 4 → a + d < 4 ^ suc m
    low d x = omega (arith, pixel_at_lt Rows m j (omega arith))

    quad_of_lem : (d : ℕ) → d < 4 → (a + d) / 4 ≡ pixel_at Rows m j
    quad_of_lem d x = omega arith

    at_quad : (d : ℕ) → d < 4 → place_of Rows m ((a + d) / 4) ≡ j
    at_quad d x = rw (quad_of_lem d x) (place_of_pixel_at Rows m j (omega arith))

    from : (d : ℕ) → d < 4 → 2 * r * 2 ^ suc m ≤ place_of Rows (suc m) (a + d)
    from d x = quad_inside m r (2 ^ k) (a + d) (omega (arith, at_quad d x)) (omega (arith, at_quad d x))

    upto : (d : ℕ) → d < 4 → place_of Rows (suc m) (a + d) < 2 * r * 2 ^ suc m + 2 ^ suc k * 2 ^ suc m
    upto d x =
        let s = rows_of m r (2 ^ k) ((a + d) / 4) (omega (arith, at_quad d x)) (omega (arith, at_quad d x)) in
        places_upto (suc m) (2 * r) (2 ^ suc k) (a + d) (omega (arith, row_quad m (a + d), s.1))

    column_at : (d : ℕ) → d < 4 → column (suc m) (a + d) ≡ 2 * column m (pixel_at Rows m j) + d % 2
    column_at d x = column_quad m (a + d) ∙ rw (quad_of_lem d x) (omega arith)

    -- west of the block all is put, east of it nothing yet
    west : column m (pixel_at Rows m j) < v → (d : ℕ) → d < 4 → e (a + d) ≡ onto (a + d)
    west l d x = mixed_out h onto c y (a + d) (λ i. omega (arith, b.west (a + d) i.0 (omega (arith, i.1)), column_at d x)) ∙ w.inside (a + d) (low d x) (from d x) (upto d x) (omega (arith, column_at d x))

    free : (column m (pixel_at Rows m j) < v → ⊥) → (d : ℕ) → d < 4 → ((c ≤ a + d) × (a + d < y) → ⊥) → e (a + d) ≡ 0
    free l d x i = mixed_out h onto c y (a + d) i ∙ w.east (a + d) (low d x) (omega (arith, column_at d x)) ∙ blank (a + d) (low d x) (from d x)

    put : (d : ℕ) → c ≤ a → a + d < y → e (a + d) ≡ onto (a + d)
    put d l u = mixed_in h onto c y (a + d) (omega arith) u

    zero_at : a + 0 ≡ a
    zero_at = omega arith

    ahead_block : a < c → a + 4 ≤ c
    ahead_block l = aligned_gap {k = 1} (record { times = pixel_at Rows m j; is = refl }) (aligned_down (omega arith) b.aligned) l

    once_here : y ≡ a + 3 → j ≡ place_of Rows m (y / 4)
    once_here q = sym (rw q (at_quad 3 (omega arith)))

    block_cut : Cut m g e (place_of Rows m (y / 4)) j
    block_cut = elim (dec_lt (column m (pixel_at Rows m j)) v) [
      | yes l ↦ record { over = 0; filled = filled4 (rw zero_at at (west l 0 (omega arith))) (west l 1 (omega arith)) (west l 2 (omega arith)) (west l 3 (omega arith)); rare = inl refl }
      | no l ↦ elim (dec_lt a c) [
        | yes n ↦ (let s = ahead_block n in none l (λ d x i. omega (arith, i.0)))
        | no n ↦ elim (dec_lt a y) [
          | no u ↦ none l (λ d x i. omega (arith, i.1))
          | yes u ↦ elim (dec_lt (a + 1) y) [
            | no p ↦ record { over = 0; filled = filled1 (first (omega arith) u) (free l 1 (omega arith) (λ i. p i.1)) (free l 2 (omega arith) (λ i. omega (arith, i.1))) (free l 3 (omega arith) (λ i. omega (arith, i.1))); rare = inl refl }
            | yes p ↦ elim (dec_lt (a + 2) y) [
              | no q ↦ record { over = 0; filled = filled2 (first (omega arith) u) (put 1 (omega arith) p) (free l 2 (omega arith) (λ i. q i.1)) (free l 3 (omega arith) (λ i. omega (arith, i.1))); rare = inl refl }
              | yes q ↦ elim (dec_lt (a + 3) y) [
                | no s ↦ record { over = 1; filled = filled3 (first (omega arith) u) (put 1 (omega arith) p) (put 2 (omega arith) q) (free l 3 (omega arith) (λ i. s i.1)); rare = inr (refl, once_here (omega arith)) }
                | yes s ↦ record { over = 0; filled = filled4 (first (omega arith) u) (put 1 (omega arith) p) (put 2 (omega arith) q) (put 3 (omega arith) s); rare = inl refl }
              ]
            ]
          ]
        ]
      ]
    ]
      where
        first : c ≤ a → a < y → e a ≡ onto a
        first l u = rw zero_at at (put 0 l (omega arith))

        none : (column m (pixel_at Rows m j) < v → ⊥) → ((d : ℕ) → d < 4 → (c ≤ a + d) × (a + d < y) → ⊥) → Cut m g e (place_of Rows m (y / 4)) j
        none l i = record { over = 0; filled = filled0 (rw zero_at at (free l 0 (omega arith) (i 0 (omega arith)))) (free l 1 (omega arith) (i 1 (omega arith))) (free l 2 (omega arith) (i 2 (omega arith))) (free l 3 (omega arith) (i 3 (omega arith))); rare = inl refl }

  pub block_way : Way m g (r * 2 ^ m) (2 ^ k * 2 ^ m) f e
  block_way = record {
    once = place_of Rows m (y / 4);
    ahead = λ z i u. ahead_mixed (suc m) (suc k) (2 * v) (2 * r) c f g h b w y hy z i (quad_ahead m r (2 ^ k) z u);
    behind = λ z i u. behind_mixed (suc m) (suc k) (2 * v) (2 * r) c f g h b w y hy z i (let t : 2 ^ suc k ≡ 2 * 2 ^ k = omega arith in let s : 2 ^ suc k * 2 ^ suc m ≡ 2 * 2 ^ k * 2 ^ suc m = ap (λ (x : ℕ). x * 2 ^ suc m) t in omega (arith, quad_behind m r (2 ^ k) z u));
    quads = block_cut;
  }

  pub block_length : length (quadtree (suc m) e) ≤ length (quadtree (suc m) f) + total (weight_at m g) (r * 2 ^ m) (2 ^ k * 2 ^ m) + 1
  block_length = way_length m g (r * 2 ^ m) (2 ^ k * 2 ^ m) f e room (λ z i l u. blank z i (quad_inside m r (2 ^ k) z l u)) block_way
