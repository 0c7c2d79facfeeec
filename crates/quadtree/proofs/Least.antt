-- The minimum: no list of quadrant tiles that shows a raster, sorted or not, overlaps of one account allowed, is shorter than its linear quadtree.
--     shows_uniform   where a list shows a raster, the raster is uniform on each of its tiles
--     shows_least     the minimum
use mathlib.Core.Path.{◌≡◌, refl, ap, sym, ◌∙◌}
use mathlib.Core.Bool.{true, false}
use mathlib.Core.List.Memᴰ
use mathlib.Core.List.{List, [], ◌∷◌}
use Prim.Native.Nat.{ℕ, suc, ◌^◌, ◌≤◌, ◌<◌}
use native.Mathlib.Decide.{dec_lt, dec_le}
use native.Mathlib.Omega.{arith}
use lib.ListN.{length}
use lib.Dec.{leb}
use Rattle.basics.proofs.Tests.{test_leb, choose_yes, choose_no}
use Rattle.tile.specs.declared.Tile.{Tile}
use Rattle.tile.specs.Tile.{stop}
use Rattle.quadtree.specs.Raster.{Aligned, Covers, Uniform, ◌∈◌, Quadrant, Shows}
use Rattle.quadtree.specs.Quadtree.{quadtree}
use Rattle.quadtree.proofs.Alignment.{area_pos, aligned_down, aligned_gap}
use Rattle.quadtree.proofs.Tiling.{Tiling, none, next, tiling_le, on_corner}
use Rattle.quadtree.proofs.Chains.{quadrant_stop}
use Rattle.quadtree.proofs.Blocks.{Top}
use Rattle.quadtree.proofs.Unique.{AllTop}
use Rattle.quadtree.proofs.ValidLaws.{quadtree_tiling, quadtree_top}

-- how many of the tiles have their corner at lo or behind
behind : ℕ → List Tile → ℕ
behind lo [] = 0
behind lo (t ∷ ts) = elim (leb lo t.corner) [ true ↦ suc (behind lo ts) | false ↦ behind lo ts ]

module _ (t : Tile) (ts : List Tile) (lo : ℕ) where
  counted : lo ≤ t.corner → behind lo (t ∷ ts) ≡ suc (behind lo ts)
  unfolding behind
  counted h = choose_yes (suc (behind lo ts)) (behind lo ts) (test_leb lo t.corner) h

  skipped : t.corner < lo → behind lo (t ∷ ts) ≡ behind lo ts
  unfolding behind
  skipped h = choose_no (suc (behind lo ts)) (behind lo ts) (test_leb lo t.corner) (λ g. omega arith)

behind_all : (lo : ℕ) (ts : List Tile) → behind lo ts ≤ length ts
unfolding behind
behind_all lo [] = omega arith
behind_all lo (t ∷ ts) =
    let ih = behind_all lo ts in
    elim (dec_le lo t.corner) [ yes h ↦ omega (arith, counted t ts lo h) | no h ↦ omega (arith, skipped t ts lo (omega arith)) ]

behind_mono : {lo mid : ℕ} (ts : List Tile) → lo ≤ mid → behind mid ts ≤ behind lo ts
unfolding behind
behind_mono [] h = omega arith
behind_mono {lo} {mid} (t ∷ ts) h =
    let ih = behind_mono ts h in
    elim (dec_le mid t.corner) [
      | yes g ↦ omega (arith, counted t ts lo (omega arith), counted t ts mid g)
      | no g ↦ elim (dec_le lo t.corner) [
        | yes k ↦ omega (arith, counted t ts lo k, skipped t ts mid (omega arith))
        | no k ↦ omega (arith, skipped t ts lo (omega arith), skipped t ts mid (omega arith))
      ]
    ]

-- a tile between lo and mid makes one more
behind_step : {lo mid : ℕ} {t : Tile} {ts : List Tile} → t ∈ ts → lo ≤ t.corner → t.corner < mid → suc (behind mid ts) ≤ behind lo ts
behind_step {lo} {mid} {t} (Memᴰ.head {x = u} {xs = ts} e) l h =
    let p : t.corner ≡ u.corner = ap (λ (x : Tile). x.corner) e in
    omega (arith, counted u ts lo (omega arith), skipped u ts mid (omega arith), behind_mono {lo = lo} {mid = mid} ts (omega arith))
behind_step {lo} {mid} {t} (Memᴰ.tail {x = u} {xs = ts} m) l h =
    let ih = behind_step m l h in
    elim (dec_le mid u.corner) [
      | yes g ↦ omega (arith, counted u ts lo (omega arith), counted u ts mid g)
      | no g ↦ elim (dec_le lo u.corner) [
        | yes k ↦ omega (arith, counted u ts lo k, skipped u ts mid (omega arith))
        | no k ↦ omega (arith, skipped u ts lo (omega arith), skipped u ts mid (omega arith))
      ]
    ]

module _ {n : ℕ} {f : ℕ → ℕ} {ts : List Tile} (shows : Shows n f ts) where
  pub shows_uniform : {t : Tile} → t ∈ ts → Uniform f t.account t.corner (stop t)
  shows_uniform {t} i z l h = elim (dec_lt 0 (f z)) [ yes o ↦ sym (shows.bears z inside o t i (l, h)) | no o ↦ absurd (shows.free z inside (omega arith) t i (l, h)) ]
    where
      q : Quadrant n t
      q = shows.quadrants t i

      inside : z < 4 ^ n
      inside = omega (arith, quadrant_stop q)

  -- a tile on the corner of a largest block starts at that corner
  at_corner : {t u : Tile} → Top n f u → Aligned u.size u.corner → f u.corner ≡ u.account → t ∈ ts → Covers t u.corner → t.corner ≡ u.corner
  at_corner {t} {u} big m e i c = elim (dec_lt t.corner u.corner) [
    | yes l ↦ absurd (elim (dec_le t.size u.size) [
      | yes g ↦ omega (arith, aligned_gap q.aligned (aligned_down g m) l, c.1)
      | no g ↦ big.top t.size t.corner (omega arith) q.fits q.aligned c.0 c.1 (λ z zl zh. w z zl zh ∙ sym (w u.corner c.0 c.1) ∙ e)
    ])
    | no l ↦ omega (arith, c.0)
  ]
    where
      q : Quadrant n t
      q = shows.quadrants t i

      w : Uniform f t.account t.corner (stop t)
      w = shows_uniform i

  least_from : {lo : ℕ} {us : List Tile} → Tiling f (4 ^ n) lo us → AllTop n f us → length us ≤ behind lo ts
  least_from (none h b) big = omega arith
  least_from {lo} (next {t = u} {ts = us} p r) big = go (least_from r (λ v i. big v (Memᴰ.tail i))) (shows.held u.corner (omega (arith, tiling_le r, area_pos u.size)) (omega (arith, e, p.on.owned)))
    where
      e : f u.corner ≡ u.account
      e = on_corner p.on

      go : length us ≤ behind (stop u) ts → (t : Tile) × (t ∈ ts) × Covers t u.corner → suc (length us) ≤ behind lo ts
      go ih (t, i, c) =
          let g = at_corner (big u (Memᴰ.head refl)) p.on.aligned e i c in
          omega (arith, behind_step {lo = lo} {mid = stop u} i (omega (arith, p.after)) (omega (arith, area_pos u.size)))

  pub shows_least : length (quadtree n f) ≤ length ts
  shows_least = omega (arith, behind_all 0 ts, least_from (quadtree_tiling n f) (quadtree_top n f))
