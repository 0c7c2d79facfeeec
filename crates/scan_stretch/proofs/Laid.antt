-- The raster that a stretch of accounts leaves, by pixel and place.
--     laid_over      put one after the other in the scan's order, they lie on their places, and elsewhere nothing changes
--     over_same      what lies so is determined: the order in which the pixels are painted does not matter
use mathlib.Core.Path.{◌≡◌, refl, ap, sym, ◌∙◌}
use Prim.Native.Nat.{ℕ, zero, suc, ◌+◌, ◌^◌, ◌≤◌, ◌<◌}
use native.Mathlib.Decide.{dec_lt}
use native.Mathlib.Omega.{arith}
use Rattle.quadtree.specs.Raster.{paint}
use Rattle.quadtree.proofs.Shown.{paint_in, paint_out}
use Rattle.bed.specs.declared.Kind.{Kind}
use Rattle.bed.specs.Places.{pixel_at, place_of}
use Rattle.bed.proofs.PlaceLaws.{place_of_pixel_at, pixel_at_place_of}
use Rattle.scan_stretch.specs.Stretch.{laid, Over}

module _ (k : Kind) (n p : ℕ) (f g : ℕ → ℕ) where
  over_none : Over k n p 0 f g f
  over_none = record { inside = λ z h l u. absurd (omega arith); ahead = λ z h l. refl; behind = λ z h l. refl }

  module _ (l : ℕ) (room : p + l < 4 ^ n) (h : ℕ → ℕ) (o : Over k n p l f g h) where
    abbrev here : ℕ
    here = pixel_at k n (p + l)

    abbrev more : ℕ → ℕ
    more = paint h here (here + 1) (g (p + l))

    other : (z : ℕ) → (place_of k n z ≡ p + l → ⊥) → more z ≡ h z
    other z d = paint_out h here (here + 1) (g (p + l)) z (λ c. d (let e : z ≡ here = omega (arith, c.0, c.1) in ap (place_of k n) e ∙ place_of_pixel_at k n (p + l) room))

    over_more : Over k n p (suc l) f g more
    over_more = record {
      inside = λ z b w u. elim (dec_lt (place_of k n z) (p + l)) [
        | yes i ↦ other z (λ e. omega arith) ∙ o.inside z b w i
        | no i ↦
            let e : place_of k n z ≡ p + l = omega arith in
            let q : z ≡ here = sym (pixel_at_place_of k n z b) ∙ ap (pixel_at k n) e in
            paint_in h here (here + 1) (g (p + l)) z (omega arith) (omega arith) ∙ ap g (sym e)
      ];
      ahead = λ z b w. other z (λ e. omega arith) ∙ o.ahead z b w;
      behind = λ z b w. other z (λ e. omega arith) ∙ o.behind z b (omega arith);
    }

  pub laid_over : (len : ℕ) → p + len ≤ 4 ^ n → Over k n p len f g (laid k n p g len f)
  unfolding laid
  laid_over zero room = over_none
  laid_over (suc l) room = over_more l (omega arith) (laid k n p g l f) (laid_over l (omega arith))

  module _ (len : ℕ) where
    pub over_same : (h h' : ℕ → ℕ) → Over k n p len f g h → Over k n p len f g h' → (z : ℕ) → z < 4 ^ n → h z ≡ h' z
    over_same h h' o o' z b = elim (dec_lt (place_of k n z) p) [
      | yes i ↦ o.ahead z b i ∙ sym (o'.ahead z b i)
      | no i ↦ elim (dec_lt (place_of k n z) (p + len)) [
        | yes j ↦ o.inside z b (omega arith) j ∙ sym (o'.inside z b (omega arith) j)
        | no j ↦ o.behind z b (omega arith) ∙ sym (o'.behind z b (omega arith))
      ]
    ]
