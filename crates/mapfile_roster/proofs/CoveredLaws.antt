-- Laws of the pixels that an account covers.
--     covered_pixels    in a valid list they are the pixels that show the account
--     covered_le        and no more than the bed has
--     covered_fits      nor than the largest bed has
--     covered_some      the account of a tile covers some
--     covered_none      an account without tiles covers none
--     covered_nobody    so account 0 covers none, in a valid list
use mathlib.Core.Path.{◌≡◌, refl, ap, sym, ◌∙◌}
use mathlib.Core.Bool.{Bool, true, false}
use mathlib.Core.List.Memᴰ
use mathlib.Core.List.{List, [], ◌∷◌}
use Prim.Native.Nat.{ℕ, zero, suc, ◌+◌, ◌-◌, ◌^◌, ◌≤◌, ◌<◌}
use native.Mathlib.Nat.{add-zero, add-suc}
use native.Mathlib.Omega.{arith}
use lib.Dec.{eqb}
use Rattle.basics.specs.Choice.{if, count}
use Rattle.basics.proofs.Tests.{test_eqb}
use Rattle.basics.proofs.ChoiceLaws.{if_yes, if_no}
use Rattle.tile.specs.declared.Tile.{Tile}
use Rattle.tile.specs.Tile.{highest_order}
use Rattle.quadtree.specs.Raster.{Uniform, account_at, ◌∈◌}
use Rattle.quadtree.specs.Valid.{Valid}
use Rattle.quadtree.proofs.Alignment.{area_pos, area_mono}
use Rattle.quadtree.proofs.Tiling.{Tiling, none, next}
use Rattle.quadtree.proofs.ValidLaws.{valid_tiling, valid_quadrant}
use Rattle.mapfile_roster.specs.Roster.{covered}

if_suc : (b : Bool) (w : ℕ) → if b 1 0 + if b w 0 ≡ if b (suc w) 0
unfolding if
if_suc true w = omega arith
if_suc false w = omega arith

if_le : (b : Bool) (w : ℕ) → if b w 0 ≤ w
unfolding if
if_le true w = omega arith
if_le false w = omega arith

if_none : (b : Bool) → ◌≡◌ {A = ℕ} (if b 0 0) 0
unfolding if
if_none true = refl
if_none false = refl

module _ (f : ℕ → ℕ) (a : ℕ) where
  abbrev is : ℕ → Bool
  is z = eqb (f z) a

  -- a uniform stretch counts wholly or not at all
  count_uniform : (b lo w : ℕ) → Uniform f b lo (lo + w) → count is (lo + w) ≡ if (eqb b a) w 0 + count is lo
  unfolding count
  count_uniform b lo zero u = rw (add-zero lo, if_none (eqb b a)) (omega arith)
  count_uniform b lo (suc w) u =
      let e : f (lo + w) ≡ b = u (lo + w) (omega arith) (omega arith) in
      rw (add-suc lo w, e, count_uniform b lo w (λ z l h. u z l (omega arith)), ← if_suc (eqb b a) w) (omega arith)

  count_to : (b lo hi : ℕ) → lo ≤ hi → Uniform f b lo hi → count is hi ≡ if (eqb b a) (hi - lo) 0 + count is lo
  count_to b lo hi h u = let e : lo + (hi - lo) ≡ hi = omega arith in rw e at (count_uniform b lo (hi - lo) (rw e u))

  module _ (o : 0 < a) where
    count_blank : (lo hi : ℕ) → lo ≤ hi → Uniform f 0 lo hi → count is hi ≡ count is lo
    count_blank lo hi h u = omega (arith, count_to 0 lo hi h u, if_no (hi - lo) 0 (test_eqb 0 a) (λ e. omega arith))

    tiling_count : {hi lo : ℕ} {ts : List Tile} → Tiling f hi lo ts → count is hi ≡ covered a ts + count is lo
    unfolding covered
    tiling_count {hi} {lo} (none h b) = omega (arith, count_blank lo hi h b)
    tiling_count {hi} {lo} (next {t = t} n r) =
        omega (arith, tiling_count r, count_uniform t.account t.corner (4 ^ t.size) n.on.uniform, count_blank lo t.corner n.after n.blank)

pub covered_pixels : {n : ℕ} {ts : List Tile} (a : ℕ) → Valid n ts → 0 < a → covered a ts ≡ count (λ z. eqb (account_at ts z) a) (4 ^ n)
unfolding count
covered_pixels {ts = ts} a v o = sym (tiling_count (account_at ts) a o (valid_tiling v) ∙ omega arith)

tiling_covered : (a : ℕ) {f : ℕ → ℕ} {hi lo : ℕ} {ts : List Tile} → Tiling f hi lo ts → covered a ts + lo ≤ hi
unfolding covered
tiling_covered a (none h b) = omega arith
tiling_covered a (next {t = t} n r) = omega (arith, tiling_covered a r, n.after, if_le (eqb t.account a) (4 ^ t.size))

pub covered_le : {n : ℕ} {ts : List Tile} (a : ℕ) → Valid n ts → covered a ts ≤ 4 ^ n
covered_le a v = omega (arith, tiling_covered a (valid_tiling v))

pub covered_fits : {n : ℕ} {ts : List Tile} (a : ℕ) → n ≤ highest_order → Valid n ts → covered a ts ≤ 4 ^ highest_order
covered_fits {n} a h v = let l : 4 ^ n ≤ 4 ^ highest_order = area_mono h in omega (arith, covered_le a v)

pub covered_some : {t : Tile} (ts : List Tile) → t ∈ ts → 0 < covered t.account ts
unfolding covered
covered_some {t} (u ∷ ts) (Memᴰ.head e) =
    let q : u.account ≡ t.account = ap (λ (x : Tile). x.account) (sym e) in
    omega (arith, if_yes (4 ^ u.size) 0 (test_eqb u.account t.account) q, area_pos u.size)
covered_some {t} (u ∷ ts) (Memᴰ.tail m) = omega (arith, covered_some ts m)
covered_some {t = t} [] x' = elim x' [ ]

pub covered_none : {a : ℕ} (ts : List Tile) → ((t : Tile) → t ∈ ts → t.account ≡ a → ⊥) → covered a ts ≡ 0
unfolding covered
covered_none [] h = refl
covered_none {a} (t ∷ ts) h =
    omega (arith, if_no (4 ^ t.size) 0 (test_eqb t.account a) (h t (Memᴰ.head refl)), covered_none {a = a} ts (λ u m. h u (Memᴰ.tail m)))

pub covered_nobody : {n : ℕ} {ts : List Tile} → Valid n ts → covered 0 ts ≡ 0
covered_nobody {ts = ts} v = covered_none ts (λ t m e. omega (arith, (valid_quadrant v m).owned))
