-- How long the list of a raster is that differs from another on some quads only, where a quad may be one tile.
--     quads_length     at most as many tiles more as these quads have by themselves
--     quad_ones        a quad has at most one tile for each somebody's pixel
--     quad_one         and of one account at most one
--     Filled           a quad with the first of its four accounts put, in the order NW, NE, SW, SE, which is that of both scans
--     filled_weight    its tiles are at most its weight, and one more where three are put
--     weight_most, weight_same, weight_mixed   a quad weighs at most 4; its weight, by whether its accounts are the same
use mathlib.Core.Path.{◌≡◌, refl, ap, sym, ◌∙◌}
use mathlib.Core.Bool.{Bool, ◌&&◌}
use mathlib.Core.Logic.{inl, inr}
use mathlib.Core.List.Memᴰ
use mathlib.Core.List.{List, [], ◌++◌}
use Prim.Native.Nat.{ℕ, zero, suc, ◌+◌, ◌-◌, ◌*◌, ◌/◌, ◌^◌, ◌≤◌, ◌<◌}
use native.Mathlib.Decide.{dec_lt}
use native.Mathlib.Omega.{arith}
use lib.Dec.{eqb}
use lib.ListN.{length, length-append}
use Rattle.basics.proofs.Tests.{Test, holds, fails, test_and, test_eqb}
use Rattle.basics.proofs.ChoiceLaws.{by_if, if_yes, if_no}
use Rattle.tile.specs.declared.Tile.{Tile}
use Rattle.quadtree.specs.Raster.{Aligned, Covers, Uniform, Shows, Quadrant, ◌∈◌}
use Rattle.quadtree.specs.Quadtree.{quadtree, single, four, blocks}
use Rattle.quadtree.proofs.Alignment.{area_pos}
use Rattle.quadtree.proofs.Tiling.{placed}
use Rattle.quadtree.proofs.Blocks.{blocks_tiling, blocks_top, blocks_uniform, blocks_mixed, test_uniform}
use Rattle.quadtree.proofs.Linear.{quadtree_shows, quadtree_largest, tiling_held}
use Rattle.quadtree.proofs.Least.{shows_least}
use Rattle.bed.specs.declared.Kind.{Kind}
use Rattle.bed.specs.Places.{pixel_at, place_of}
use Rattle.bed.proofs.PlaceLaws.{pixel_at_lt, pixel_at_place_of}
use Rattle.scan_stretch.specs.Weight.{one, weight, total}

pub one_nobody : (a : ℕ) → a ≡ 0 → one a ≡ 0
unfolding one
one_nobody zero h = refl
one_nobody (suc a) h = absurd (omega arith)

pub one_somebody : (a : ℕ) → 0 < a → one a ≡ 1
unfolding one
one_somebody zero h = absurd (omega arith)
one_somebody (suc a) h = refl

pub one_most : (a : ℕ) → one a ≤ 1
unfolding one
one_most zero = omega arith
one_most (suc a) = omega arith

single_length : (c k a : ℕ) → length (single c k a) ≡ one a
unfolding single one
single_length c k zero = refl
single_length c k (suc a) = refl

-- the quads of a bed of order n + 1 by their places, which are those of a bed of order n
module _ (k : Kind) (n : ℕ) (h : ℕ → ℕ) (q : ℕ) where
  abbrev corner : ℕ → ℕ
  corner j = pixel_at k n j * 4

  -- the tiles of len quads from the place q on
  pub quad_tiles : ℕ → List Tile
  quad_tiles zero = []
  quad_tiles (suc l) = quad_tiles l ++ blocks h 1 (corner (q + l))

  -- how many tiles a quad has
  abbrev size_of : ℕ → ℕ
  size_of j = length (blocks h 1 (corner j))

  tiles_length : (len : ℕ) → length (quad_tiles len) ≡ total size_of q len
  unfolding quad_tiles total
  tiles_length zero = refl
  tiles_length (suc l) = length-append (quad_tiles l) _ ∙ rw (tiles_length l)

  record In (len : ℕ) (t : Tile) : Type 0 where
    place : ℕ
    from : q ≤ place
    upto : place < q + len
    has : t ∈ blocks h 1 (corner place)

  tiles_in_lem : (len : ℕ) {t : Tile} → t ∈ quad_tiles len → In len t
  unfolding quad_tiles
  tiles_in_lem zero m = absurd (Memᴰ.not-nil m)
  tiles_in_lem (suc l) m = elim (Memᴰ.append_cases (quad_tiles l) m) [
    | inl i ↦ (let d = tiles_in_lem l i in record { place = d.place; from = d.from; upto = omega (arith, d.upto); has = d.has })
    | inr i ↦ record { place = q + l; from = omega arith; upto = omega arith; has = i }
  ]

  tiles_has : (len j : ℕ) {t : Tile} → q ≤ j → j < q + len → t ∈ blocks h 1 (corner j) → t ∈ quad_tiles len
  unfolding quad_tiles
  tiles_has zero j l u m = absurd (omega arith)
  tiles_has (suc p) j l u m = elim (dec_lt j (q + p)) [
    | yes g ↦ Memᴰ.append_left (blocks h 1 (corner (q + p))) (tiles_has p j l g m)
    | no g ↦ let e : q + p ≡ j = omega arith in Memᴰ.append_right (quad_tiles p) (rw e m)
  ]

  corner_aligned : (j : ℕ) → Aligned 1 (corner j)
  corner_aligned j = record { times = pixel_at k n j; is = refl }

  -- the quad of a pixel, by its place
  abbrev quad_of : ℕ → ℕ
  quad_of z = place_of k n (z / 4)

  module _ (f : ℕ → ℕ) (len : ℕ) (room : q + len ≤ 4 ^ n)
      (blank : (z : ℕ) → z < 4 ^ suc n → q ≤ quad_of z → quad_of z < q + len → f z ≡ 0)
      (ahead : (z : ℕ) → z < 4 ^ suc n → quad_of z < q → h z ≡ f z) (behind : (z : ℕ) → z < 4 ^ suc n → q + len ≤ quad_of z → h z ≡ f z) where
    abbrev all : List Tile
    all = quadtree (suc n) f ++ quad_tiles len

    corner_of : (z : ℕ) → z < 4 ^ suc n → (corner (quad_of z) ≤ z) × (z < corner (quad_of z) + 4)
    corner_of z l = let e = pixel_at_place_of k n (z / 4) (omega arith) in (omega arith, omega arith)

    outside : (z : ℕ) → z < 4 ^ suc n → 0 < f z → h z ≡ f z
    outside z l o = elim (dec_lt (quad_of z) q) [
      | yes g ↦ ahead z l g
      | no g ↦ elim (dec_lt (quad_of z) (q + len)) [ yes u ↦ absurd (omega (arith, blank z l (omega arith) u)) | no u ↦ behind z l (omega arith) ]
    ]

    inside : (j : ℕ) → q ≤ j → j < q + len → corner j + 4 ≤ 4 ^ suc n
    inside j l u = omega (arith, pixel_at_lt k n j (omega arith))

    either : {t : Tile} (z : ℕ) → z < 4 ^ suc n → t ∈ all → Covers t z → (t.account ≡ h z) × (0 < h z)
    either {t} z l m c = elim (Memᴰ.append_cases (quadtree (suc n) f) m) [
      | inl i ↦
          let b = quadtree_largest (suc n) f i in
          let e : f z ≡ t.account = b.uniform z c.0 c.1 in
          let o = b.quadrant.owned in
          (omega (arith, outside z l (omega arith)), omega (arith, outside z l (omega arith)))
      | inr i ↦
          let d = tiles_in_lem len i in
          let p = placed (blocks_tiling h 1 (corner d.place) (corner_aligned d.place) (corner d.place + 4) refl) d.has in
          (sym (p.on.uniform z c.0 c.1), omega (arith, p.on.uniform z c.0 c.1, p.on.owned))
    ]

    quad_quadrant : {t : Tile} → In len t → Quadrant (suc n) t
    quad_quadrant {t} d =
        let p = placed (blocks_tiling h 1 (corner d.place) (corner_aligned d.place) (corner d.place + 4) refl) d.has in
        record {
          fits = omega (arith, (blocks_top h 1 (corner d.place) (corner_aligned d.place) t d.has).fits);
          inside = omega (arith, p.upto, area_pos t.size, inside d.place d.from d.upto);
          aligned = p.on.aligned;
          owned = p.on.owned;
        }

    held_old : (z : ℕ) → z < 4 ^ suc n → 0 < h z → h z ≡ f z → (t : Tile) × (t ∈ all) × Covers t z
    held_old z l o e = let w = (quadtree_shows (suc n) f).held z l (omega arith) in (w.0, Memᴰ.append_left (quad_tiles len) w.1, w.2)

    shows : Shows (suc n) h all
    shows = record {
      quadrants = λ t m. elim (Memᴰ.append_cases (quadtree (suc n) f) m) [ inl i ↦ (quadtree_largest (suc n) f i).quadrant | inr i ↦ quad_quadrant (tiles_in_lem len i) ];
      bears = λ z l o t m c. (either z l m c).0;
      held = λ z l o. elim (dec_lt (quad_of z) q) [
        | yes g ↦ held_old z l o (ahead z l g)
        | no g ↦ elim (dec_lt (quad_of z) (q + len)) [
          | yes u ↦
              let j = quad_of z in
              let w = tiling_held (blocks_tiling h 1 (corner j) (corner_aligned j) (corner j + 4) refl) z (corner_of z l).0 (corner_of z l).1 o in
              (w.0, Memᴰ.append_right (quadtree (suc n) f) (tiles_has len j (omega arith) u w.1), w.2)
          | no u ↦ held_old z l o (behind z l (omega arith))
        ]
      ];
      free = λ z l e t m c. omega (arith, (either z l m c).1);
    }

    pub quads_length : length (quadtree (suc n) h) ≤ length (quadtree (suc n) f) + total size_of q len
    quads_length = omega (arith, shows_least shows, length-append (quadtree (suc n) f) (quad_tiles len), tiles_length len)

four_ones : (e : ℕ → ℕ) (c : ℕ) → length (four (λ x. blocks e 0 x) 0 c) ≡ one (e c) + (one (e (c + 1)) + (one (e (c + 2)) + one (e (c + 3))))
unfolding four blocks
four_ones e c =
    rw (
      length-append (single c 0 (e c)) (single (c + 1) 0 (e (c + 1)) ++ (single (c + 2) 0 (e (c + 2)) ++ single (c + 3) 0 (e (c + 3)))),
      length-append (single (c + 1) 0 (e (c + 1))) (single (c + 2) 0 (e (c + 2)) ++ single (c + 3) 0 (e (c + 3))),
      length-append (single (c + 2) 0 (e (c + 2))) (single (c + 3) 0 (e (c + 3))),
      single_length c 0 (e c),
      single_length (c + 1) 0 (e (c + 1)),
      single_length (c + 2) 0 (e (c + 2)),
      single_length (c + 3) 0 (e (c + 3)),
    )

module _ (e : ℕ → ℕ) (c : ℕ) where
  uniform_one : Uniform e (e c) c (c + 4) → length (blocks e 1 c) ≡ one (e c)
  uniform_one u = ap length (blocks_uniform e (e c) 1 c u) ∙ single_length c 1 (e c)

  pub quad_ones : length (blocks e 1 c) ≤ one (e c) + one (e (c + 1)) + (one (e (c + 2)) + one (e (c + 3)))
  quad_ones = go (test_uniform e (e c) c 4)
    where
      mixed_ones : (Uniform e (e c) c (c + 4) → ⊥) → length (blocks e 1 c) ≡ one (e c) + (one (e (c + 1)) + (one (e (c + 2)) + one (e (c + 3))))
      mixed_ones u = ap length (blocks_mixed e 0 c u) ∙ four_ones e c

      go : {b : Bool} → Test (Uniform e (e c) c (c + 4)) b → length (blocks e 1 c) ≤ one (e c) + one (e (c + 1)) + (one (e (c + 2)) + one (e (c + 3)))
      go (holds u) = omega (arith, uniform_one u)
      go (fails u) = omega (arith, mixed_ones u)

  pub quad_one : e c ≡ e (c + 1) → e (c + 1) ≡ e (c + 2) → e (c + 2) ≡ e (c + 3) → length (blocks e 1 c) ≤ one (e c)
  quad_one p q r = omega (arith, uniform_one all)
    where
      all : Uniform e (e c) c (c + 4)
      all z l h = go (z - c) (omega arith)
        where
          go : (j : ℕ) → z ≡ c + j → e z ≡ e c
          go zero x = (let y : z ≡ c = omega arith in ap e y)
          go (suc zero) x = ap e x ∙ sym p
          go (suc (suc zero)) x = ap e x ∙ sym (p ∙ q)
          go (suc (suc (suc zero))) x = ap e x ∙ sym (p ∙ q ∙ r)
          go (suc (suc (suc (suc j)))) x = absurd (omega arith)

abbrev pub Same : ℕ → ℕ → ℕ → ℕ → Type 0
Same a b c d = (a ≡ b) × ((b ≡ c) × (c ≡ d))

test_same : (a b c d : ℕ) → Test (Same a b c d) (eqb a b && (eqb b c && eqb c d))
test_same a b c d = test_and (test_eqb a b) (test_and (test_eqb b c) (test_eqb c d))

pub data Filled (v w x y a b c d : ℕ) : ℕ → Type 0 where
  filled0 : v ≡ 0 → w ≡ 0 → x ≡ 0 → y ≡ 0 → Filled v w x y a b c d 0
  filled1 : v ≡ a → w ≡ 0 → x ≡ 0 → y ≡ 0 → Filled v w x y a b c d 0
  filled2 : v ≡ a → w ≡ b → x ≡ 0 → y ≡ 0 → Filled v w x y a b c d 0
  filled3 : v ≡ a → w ≡ b → x ≡ c → y ≡ 0 → Filled v w x y a b c d 1
  filled4 : v ≡ a → w ≡ b → x ≡ c → y ≡ d → Filled v w x y a b c d 0

pub filled_weight : (e : ℕ → ℕ) (p a b c d x : ℕ) → Filled (e p) (e (p + 1)) (e (p + 2)) (e (p + 3)) a b c d x → length (blocks e 1 p) ≤ weight a b c d + x
unfolding weight
filled_weight e p a b c d x w = by_if (λ (r : ℕ). length (blocks e 1 p) ≤ r + x) (test_same a b c d) (λ s. yes_same s w) (λ s. other w)
  where
    zero_one : (r : ℕ) → r ≡ 0 → one r ≡ 0
    zero_one r z = one_nobody r z

    yes_same : {y : ℕ} → Same a b c d → Filled (e p) (e (p + 1)) (e (p + 2)) (e (p + 3)) a b c d y → length (blocks e 1 p) ≤ one a + one a + y
    yes_same s (filled0 f g h i) = omega (arith, quad_ones e p, zero_one _ f, zero_one _ g, zero_one _ h, zero_one _ i)
    yes_same s (filled1 f g h i) = omega (arith, quad_ones e p, ap one f, zero_one _ g, zero_one _ h, zero_one _ i)
    yes_same s (filled2 f g h i) = omega (arith, quad_ones e p, ap one f, ap one (g ∙ sym s.0), zero_one _ h, zero_one _ i)
    yes_same s (filled3 f g h i) = omega (arith, quad_ones e p, ap one f, ap one (g ∙ sym s.0), ap one (h ∙ sym (s.0 ∙ s.1.0)), zero_one _ i, one_most a)
    yes_same s (filled4 f g h i) = omega (arith, quad_one e p (f ∙ s.0 ∙ sym g) (g ∙ s.1.0 ∙ sym h) (h ∙ s.1.1 ∙ sym i), ap one f)

    other : {y : ℕ} → Filled (e p) (e (p + 1)) (e (p + 2)) (e (p + 3)) a b c d y → length (blocks e 1 p) ≤ one a + one b + (one c + one d) + y
    other (filled0 f g h i) = omega (arith, quad_ones e p, zero_one _ f, zero_one _ g, zero_one _ h, zero_one _ i)
    other (filled1 f g h i) = omega (arith, quad_ones e p, ap one f, zero_one _ g, zero_one _ h, zero_one _ i)
    other (filled2 f g h i) = omega (arith, quad_ones e p, ap one f, ap one g, zero_one _ h, zero_one _ i)
    other (filled3 f g h i) = omega (arith, quad_ones e p, ap one f, ap one g, ap one h, zero_one _ i)
    other (filled4 f g h i) = omega (arith, quad_ones e p, ap one f, ap one g, ap one h, ap one i)

pub weight_most : (a b c d : ℕ) → weight a b c d ≤ 4
unfolding weight
weight_most a b c d = by_if (λ (r : ℕ). r ≤ 4) (test_same a b c d) (λ s. omega (arith, one_most a)) (λ s. omega (arith, one_most a, one_most b, one_most c, one_most d))

-- as the code tests it
pub weight_same : (a b c d : ℕ) → a ≡ b → b ≡ c → c ≡ d → one a + one a ≡ weight a b c d
unfolding weight
weight_same a b c d p q r = sym (if_yes _ _ (test_same a b c d) (p, (q, r)))

pub weight_mixed : (a b c d : ℕ) → (Same a b c d → ⊥) → one a + one b + (one c + one d) ≡ weight a b c d
unfolding weight
weight_mixed a b c d h = sym (if_no _ _ (test_same a b c d) h)
