-- Check 22 read two ways: a tile of the linear quadtree covers an unscanned pixel just if a somebody's pixel of its raster is unscanned.
--     unscanned_alike   the two tests have one answer
--     blank_none    a bed whose unscanned pixels are nobody's passes
use mathlib.Core.Path.{◌≡◌, refl}
use mathlib.Core.Bool.{Bool, false, ◌||◌, not}
use mathlib.Core.List.Memᴰ
use mathlib.Core.List.{List, [], ◌∷◌}
use mathlib.Core.Logic.{inl, inr}
use Prim.Native.Nat.{ℕ, suc, ◌^◌, ◌≤◌, ◌<◌}
use native.Mathlib.Decide.{dec_le}
use native.Mathlib.Omega.{arith}
use Rattle.basics.proofs.Tests.{Test, holds, fails, test_leb, test_and, test_not, test_alike}
use Rattle.basics.proofs.ChoiceLaws.{Some, test_some}
use Rattle.tile.specs.declared.Tile.{Tile}
use Rattle.quadtree.specs.Raster.{◌∈◌}
use Rattle.quadtree.specs.Quadtree.{quadtree}
use Rattle.quadtree.proofs.Tiling.{placed}
use Rattle.quadtree.proofs.ValidLaws.{quadtree_tiling}
use Rattle.quadtree.proofs.Linear.{tiling_held}
use Rattle.bed.specs.declared.Kind.{Kind}
use Rattle.bed.specs.Places.{place_of, scanned, scan_of}
use Rattle.bed.specs.Bed.{has_unscanned}
use Rattle.scan_check.specs.Opening.{covers_unscanned}

abbrev Unscanned : Kind → ℕ → ℕ → ℕ → Type 0
Unscanned k n s z = place_of k n z < s → ⊥

test_unscanned : (k : Kind) (n s z : ℕ) → Test (Unscanned k n s z) (not (scanned k n s z))
unfolding scanned
test_unscanned k n s z = test_not (test_leb (suc (place_of k n z)) s)

-- a tile of the list covers an unscanned pixel
abbrev Covered : Kind → ℕ → ℕ → List Tile → Type 0
Covered k n s ts = (t : Tile) × (t ∈ ts) × Some (Unscanned k n s) t.corner (4 ^ t.size)

module _ (k : Kind) (n s x : ℕ) where
  either : {a b : Bool} (t : Tile) (ts : List Tile) → Test (Some (Unscanned k n s) t.corner (4 ^ t.size)) a → Test (Covered k n s ts) b → Test (Covered k n s (t ∷ ts)) (a || b)
  either t ts (holds p) (holds q) = holds (t, Memᴰ.head refl, p)
  either t ts (holds p) (fails q) = holds (t, Memᴰ.head refl, p)
  either t ts (fails p) (holds q) = holds (q.0, Memᴰ.tail q.1, q.2)
  either t ts (fails p) (fails q) = fails (λ r. elim (Memᴰ.cases_cons r.1) [ inl e ↦ p (rw e at r.2) | inr m ↦ q (r.0, m, r.2) ])

  test_covered : (ts : List Tile) → Test (Covered k n s ts) (covers_unscanned (scan_of k n s x) ts)
  unfolding covers_unscanned
  test_covered [] = fails (λ r. Memᴰ.not-nil r.1)
  test_covered (t ∷ ts) = either t ts (test_some (test_unscanned k n s) t.corner (4 ^ t.size)) (test_covered ts)

  test_owned : (f : ℕ → ℕ) → Test (Some (λ z. (0 < f z) × Unscanned k n s z) 0 (4 ^ n)) (has_unscanned (record { order = n; kind = k; scanned = s; account = f }))
  unfolding has_unscanned
  test_owned f = test_some (λ z. test_and (test_leb 1 (f z)) (test_unscanned k n s z)) 0 (4 ^ n)

  pub unscanned_alike : (f : ℕ → ℕ) → covers_unscanned (scan_of k n s x) (quadtree n f) ≡ has_unscanned (record { order = n; kind = k; scanned = s; account = f })
  unscanned_alike f = test_alike (test_covered (quadtree n f)) (test_owned f)
      (λ r.
      let p = placed (quadtree_tiling n f) r.1 in
      let w = r.2 in
      (w.0, omega arith, omega (arith, w.2, p.upto), (omega (arith, p.on.uniform w.0 w.1 w.2, p.on.owned), w.3)))
      (λ r.
      let h = tiling_held (quadtree_tiling n f) r.0 (omega arith) (omega (arith, r.2)) r.3.0 in
      (h.0, h.1, (r.0, h.2.0, h.2.1, r.3.1)))

  -- a bed whose unscanned pixels are nobody's
  pub blank_none : (f : ℕ → ℕ) → ((z : ℕ) → z < 4 ^ n → s ≤ place_of k n z → f z ≡ 0) → has_unscanned (record { order = n; kind = k; scanned = s; account = f }) ≡ false
  blank_none f blank = fails_false (test_owned f) (λ r. omega (arith, r.3.0, blank r.0 (omega (arith, r.2)) (outside r.0 r.3.1)))
    where
      outside : (z : ℕ) → Unscanned k n s z → s ≤ place_of k n z
      outside z u = elim (dec_le s (place_of k n z)) [ yes h ↦ h | no h ↦ absurd (u (omega arith)) ]

      fails_false : {P : Type 0} {b : Bool} → Test P b → (P → ⊥) → b ≡ false
      fails_false (holds p) q = absurd (q p)
      fails_false (fails p) q = refl
