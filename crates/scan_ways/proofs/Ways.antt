-- Lists on the way through a band, counted by quads: a bound that is nearer than one tile for each somebody's pixel.
--     Way          of each quad of the band the first accounts are put, and of one quad at most just three
--     way_length   then the list is no longer than the old one, the quads' weights and one
--     row_way      so it is at each place of a feed by rows of 2 h rows from the row 2 r on
--     row_length   which are then taken with as many free slots
use mathlib.Core.Path.{◌≡◌, refl, ap, sym, ◌∙◌}
use mathlib.Core.Logic.{◌⊎◌, inl, inr}
use Prim.Native.Nat.{ℕ, suc, ◌+◌, ◌-◌, ◌*◌, ◌/◌, ◌%◌, ◌^◌, ◌≤◌, ◌<◌}
use native.Mathlib.Nat.{add-mul}
use native.Mathlib.Decide.{dec_lt}
use native.Mathlib.Omega.{arith}
use lib.Pow.{pow_pos}
use lib.ListN.{length}
use Rattle.morton.specs.Morton.{row}
use Rattle.quadtree.specs.Raster.{Aligned}
use Rattle.quadtree.specs.Quadtree.{quadtree, blocks}
use Rattle.bed.specs.Places.{pixel_at, place_of}
use Rattle.bed.specs.declared.Kind.TheVariants.{Rows}
use Rattle.bed.proofs.PlaceLaws.{pixel_at_lt, place_of_pixel_at, pixel_at_place_of}
use Rattle.scan_stretch.specs.Stretch.{Blank, Over}
use Rattle.scan_stretch.specs.Weight.{weight, total}
use Rattle.scan_stretch.proofs.Totals.{total_one}
use Rattle.scan_stretch.proofs.Quads.{Filled, filled0, filled1, filled2, filled3, filled4, filled_weight, quads_length}
use Rattle.scan_block.proofs.Putting.{quad_place}
use Rattle.scan_ways.proofs.Geometry.{rows_of, places_from, places_upto}

module _ (m : ℕ) (g : ℕ → ℕ) where
  -- the corner of a quad, by its place among the quads
  abbrev pub corner : ℕ → ℕ
  corner j = pixel_at Rows m j * 4

  -- what the feed gives a pixel
  abbrev pub given : ℕ → ℕ
  given z = g (place_of Rows (suc m) z)

  abbrev pub weight_at : ℕ → ℕ
  weight_at j = weight (given (corner j)) (given (corner j + 1)) (given (corner j + 2)) (given (corner j + 3))

  abbrev pub FilledAt : (ℕ → ℕ) → ℕ → ℕ → Type 0
  FilledAt e j x = Filled (e (corner j)) (e (corner j + 1)) (e (corner j + 2)) (e (corner j + 3)) (given (corner j)) (given (corner j + 1)) (given (corner j + 2)) (given (corner j + 3)) x

  pub record Cut (e : ℕ → ℕ) (once j : ℕ) : Type 0 where
    pub over : ℕ
    pub filled : FilledAt e j over
    pub rare : (over ≡ 0) ⊎ ((over ≡ 1) × (j ≡ once))

  pub record Way (q len : ℕ) (f e : ℕ → ℕ) : Type 0 where
    pub once : ℕ
    pub ahead : (z : ℕ) → z < 4 ^ suc m → place_of Rows m (z / 4) < q → e z ≡ f z
    pub behind : (z : ℕ) → z < 4 ^ suc m → q + len ≤ place_of Rows m (z / 4) → e z ≡ f z
    pub quads : (j : ℕ) → q ≤ j → j < q + len → Cut e once j

  pub way_length : (q len : ℕ) (f e : ℕ → ℕ) → q + len ≤ 4 ^ m → ((z : ℕ) → z < 4 ^ suc m → q ≤ place_of Rows m (z / 4) → place_of Rows m (z / 4) < q + len → f z ≡ 0) → Way q len f e →
      length (quadtree (suc m) e) ≤ length (quadtree (suc m) f) + total weight_at q len + 1
  way_length q len f e room blank w =
      omega (arith, quads_length Rows m e q f len room blank w.ahead w.behind, total_one (λ j. length (blocks e 1 (corner j))) weight_at q len w.once each)
    where
      each : (j : ℕ) → q ≤ j → j < q + len → (length (blocks e 1 (corner j)) ≤ weight_at j) ⊎ ((length (blocks e 1 (corner j)) ≤ weight_at j + 1) × (j ≡ w.once))
      each j l u =
          let c = w.quads j l u in
          let b = filled_weight e (corner j) (given (corner j)) (given (corner j + 1)) (given (corner j + 2)) (given (corner j + 3)) c.over c.filled in
          elim c.rare [ inl x ↦ inl (omega arith) | inr x ↦ inr (omega (arith, x.0), x.1) ]

-- rows of pixels and rows of quads
pub row_quad : (m z : ℕ) → row (suc m) z ≡ 2 * row m (z / 4) + z / 2 % 2
unfolding row
row_quad m z = refl

module _ (m r h : ℕ) where
  abbrev p : ℕ
  p = 2 * r * 2 ^ suc m

  abbrev len : ℕ
  len = 2 * h * 2 ^ suc m

  abbrev q : ℕ
  q = r * 2 ^ m

  abbrev lenq : ℕ
  lenq = h * 2 ^ m

  pub quad_ahead : (z : ℕ) → place_of Rows m (z / 4) < q → place_of Rows (suc m) z < p
  quad_ahead z l =
      let a = rows_of m 0 r (z / 4) (omega arith) (omega arith) in
      omega (arith, places_upto (suc m) 0 (2 * r) z (omega (arith, row_quad m z, a.1)))

  pub quad_behind : (z : ℕ) → q + lenq ≤ place_of Rows m (z / 4) → p + len ≤ place_of Rows (suc m) z
  quad_behind z l =
      let a : r + h ≤ row m (z / 4) = elim (dec_lt (row m (z / 4)) (r + h)) [ yes x ↦ absurd (omega (arith, places_upto m r h (z / 4) x)) | no x ↦ omega arith ] in
      omega (arith, places_from (suc m) (2 * r + 2 * h) 0 z (omega (arith, row_quad m z)), add-mul (2 * r) (2 * h) (2 ^ suc m))

  pub quad_inside : (z : ℕ) → q ≤ place_of Rows m (z / 4) → place_of Rows m (z / 4) < q + lenq → p ≤ place_of Rows (suc m) z
  quad_inside z l u =
      let a = rows_of m r h (z / 4) l u in
      places_from (suc m) (2 * r) 0 z (omega (arith, row_quad m z, a.0))

  module _ (f g e : ℕ → ℕ) (l : ℕ) (blank : Blank Rows (suc m) p f) (room : q + lenq ≤ 4 ^ m) (lt : l ≤ len) (o : Over Rows (suc m) p l f g e) where
    -- the quad that has just three
    abbrev once : ℕ
    once = place_of Rows m (pixel_at Rows (suc m) (p + l - 1 - 2 ^ suc m) / 4)

    module _ (j : ℕ) (jl : q ≤ j) (ju : j < q + lenq) where
      abbrev c : ℕ
      c = pixel_at Rows m j * 4

      aligned : Aligned 1 c
      aligned = record { times = pixel_at Rows m j; is = refl }

      low : (d : ℕ) → d < 4 → c + d < 4 ^ suc m
      low d h = omega (arith, pixel_at_lt Rows m j (omega arith))

      at_quad : (d : ℕ) → d < 4 → place_of Rows m ((c + d) / 4) ≡ j
      at_quad d h = let x : (c + d) / 4 ≡ pixel_at Rows m j = omega arith in rw x (place_of_pixel_at Rows m j (omega arith))

      from : (d : ℕ) → d < 4 → p ≤ place_of Rows (suc m) (c + d)
      from d h = quad_inside (c + d) (omega (arith, at_quad d h)) (omega (arith, at_quad d h))

      place : (d : ℕ) → d < 4 → place_of Rows (suc m) (c + d) ≡ place_of Rows (suc m) c + d / 2 * 2 ^ suc m + d % 2
      place d h = quad_place (suc m) c d (omega arith) aligned h

      -- a pixel that is put, and one that is not
      put : (d : ℕ) → d < 4 → place_of Rows (suc m) (c + d) < p + l → e (c + d) ≡ g (place_of Rows (suc m) (c + d))
      put d h u = o.inside (c + d) (low d h) (from d h) u

      free : (d : ℕ) → d < 4 → p + l ≤ place_of Rows (suc m) (c + d) → e (c + d) ≡ 0
      free d h u = o.behind (c + d) (low d h) u ∙ blank (c + d) (low d h) (from d h)

      zero_at : c + 0 ≡ c
      zero_at = omega arith

      put0 : place_of Rows (suc m) c < p + l → e c ≡ g (place_of Rows (suc m) c)
      put0 u = rw zero_at at (put 0 (omega arith) (rw zero_at u))

      free0 : p + l ≤ place_of Rows (suc m) c → e c ≡ 0
      free0 u = rw zero_at at (free 0 (omega arith) (rw zero_at u))

      once_here : place_of Rows (suc m) c + 2 ^ suc m + 1 ≡ p + l → j ≡ once
      once_here x =
          let y : place_of Rows (suc m) c ≡ p + l - 1 - 2 ^ suc m = omega arith in
          let w : pixel_at Rows (suc m) (p + l - 1 - 2 ^ suc m) ≡ c = ap (pixel_at Rows (suc m)) (sym y) ∙ pixel_at_place_of Rows (suc m) c (rw zero_at at (low 0 (omega arith))) in
          let v : c / 4 ≡ pixel_at Rows m j = omega arith in
          sym (rw (w, v) (place_of_pixel_at Rows m j (omega arith)))

      cut : Cut m g e once j
      cut = elim (dec_lt (place_of Rows (suc m) c) (p + l)) [
        | no a ↦ record { over = 0; filled = filled0 (free0 (omega arith)) (free 1 (omega arith) (omega (arith, place 1 (omega arith)))) (free 2 (omega arith) (omega (arith, place 2 (omega arith)))) (free 3 (omega arith) (omega (arith, place 3 (omega arith)))); rare = inl refl }
        | yes a ↦ elim (dec_lt (place_of Rows (suc m) (c + 1)) (p + l)) [
          | no b ↦ record { over = 0; filled = filled1 (put0 a) (free 1 (omega arith) (omega arith)) (free 2 (omega arith) (omega (arith, place 1 (omega arith), place 2 (omega arith), side))) (free 3 (omega arith) (omega (arith, place 1 (omega arith), place 3 (omega arith)))); rare = inl refl }
          | yes b ↦ elim (dec_lt (place_of Rows (suc m) (c + 2)) (p + l)) [
            | no d ↦ record { over = 0; filled = filled2 (put0 a) (put 1 (omega arith) b) (free 2 (omega arith) (omega arith)) (free 3 (omega arith) (omega (arith, place 2 (omega arith), place 3 (omega arith)))); rare = inl refl }
            | yes d ↦ elim (dec_lt (place_of Rows (suc m) (c + 3)) (p + l)) [
              | no i ↦ record { over = 1; filled = filled3 (put0 a) (put 1 (omega arith) b) (put 2 (omega arith) d) (free 3 (omega arith) (omega arith)); rare = inr (refl, once_here (omega (arith, place 2 (omega arith), place 3 (omega arith)))) }
              | yes i ↦ record { over = 0; filled = filled4 (put0 a) (put 1 (omega arith) b) (put 2 (omega arith) d) (put 3 (omega arith) i); rare = inl refl }
            ]
          ]
        ]
      ]
        where
          side : 1 ≤ 2 ^ suc m
          side = pow_pos (suc m)

    pub row_way : Way m g q lenq f e
    row_way = record {
      once = once;
      ahead = λ z h u. o.ahead z h (quad_ahead z u);
      behind = λ z h u. o.behind z h (omega (arith, quad_behind z u));
      quads = cut;
    }

    -- so m slots are enough at this place if they are for the weights and one
    pub row_length : length (quadtree (suc m) e) ≤ length (quadtree (suc m) f) + total (weight_at m g) q lenq + 1
    row_length = way_length m g q lenq f e room (λ z h u v. blank z h (quad_inside z u v)) row_way
