-- What a tile list shows: `account_at` of a list, of a tiling and of a painted raster.
--     test_covers                  the test of the definitions
--     account_at_first, -rest       the first tile decides where it covers, else the rest
--     account_at_tiling             a tiling of f shows f
--     account_at_low                words show accounts up to the highest
--     paint_in, paint_out          a painted raster inside and outside of what was painted
use mathlib.Core.Path.{◌≡◌, refl, sym, ◌∙◌}
use mathlib.Core.Bool.{◌&&◌}
use mathlib.Core.List.{List, [], ◌∷◌, map}
use Prim.Native.Nat.{ℕ, suc, ◌≤◌, ◌<◌}
use native.Mathlib.Decide.{dec_lt}
use native.Mathlib.Omega.{arith}
use lib.Dec.{leb, ltb}
use Rattle.basics.proofs.Tests.{Test, test_leb, test_and, by_test, choose_yes, choose_no}
use Rattle.tile.specs.declared.Tile.{Tile}
use Rattle.tile.specs.Tile.{stop, tile_of, highest_account}
use Rattle.tile.proofs.TileLaws.{tile_of_account}
use Rattle.quadtree.specs.Raster.{Covers, covers, account_at, paint}
use Rattle.quadtree.proofs.Tiling.{Tiling, none, next}

pub test_covers : (t : Tile) (z : ℕ) → Test (Covers t z) (covers t z)
test_covers t z = test_and (test_leb t.corner z) (test_leb (suc z) (stop t))

pub account_at_first : (t : Tile) (ts : List Tile) (z : ℕ) → Covers t z → account_at (t ∷ ts) z ≡ t.account
unfolding account_at
account_at_first t ts z c = choose_yes t.account (account_at ts z) (test_covers t z) c

pub account_at_rest : (t : Tile) (ts : List Tile) (z : ℕ) → (Covers t z → ⊥) → account_at (t ∷ ts) z ≡ account_at ts z
unfolding account_at
account_at_rest t ts z c = choose_no t.account (account_at ts z) (test_covers t z) c

pub account_at_low : (ws : List ℕ) (z : ℕ) → account_at (map tile_of ws) z ≤ highest_account
unfolding account_at
account_at_low [] z = omega arith
account_at_low (w ∷ ws) z = by_test (λ (a : ℕ). a ≤ highest_account) (test_covers (tile_of w) z) (λ c. tile_of_account w) (λ c. account_at_low ws z)

-- nothing is shown before the list starts
account_at_before : {f : ℕ → ℕ} {hi lo : ℕ} {ts : List Tile} → Tiling f hi lo ts → (z : ℕ) → z < lo → account_at ts z ≡ 0
unfolding account_at
account_at_before (none h b) z l = refl
account_at_before (next {t = t} {ts = ts} n r) z l =
    account_at_rest t ts z (λ c. omega (arith, c.0, n.after)) ∙ account_at_before r z (omega (arith, n.after))

pub account_at_tiling : {f : ℕ → ℕ} {hi lo : ℕ} {ts : List Tile} → Tiling f hi lo ts → (z : ℕ) → lo ≤ z → z < hi → account_at ts z ≡ f z
unfolding account_at
account_at_tiling (none h b) z l g = sym (b z l g)
account_at_tiling (next {t = t} {ts = ts} n r) z l g = elim (dec_lt z t.corner) [
  | yes b ↦ account_at_rest t ts z (λ c. omega (arith, c.0)) ∙ account_at_before r z (omega arith) ∙ sym (n.blank z l b)
  | no b ↦ elim (dec_lt z (stop t)) [
    | yes c ↦ account_at_first t ts z (omega arith, c) ∙ sym (n.on.uniform z (omega arith) c)
    | no c ↦ account_at_rest t ts z (λ d. c d.1) ∙ account_at_tiling r z (omega arith) g
  ]
]

test_painted : (lo hi z : ℕ) → Test ((lo ≤ z) × (z < hi)) (leb lo z && ltb z hi)
test_painted lo hi z = test_and (test_leb lo z) (test_leb (suc z) hi)

pub paint_in : (f : ℕ → ℕ) (lo hi a z : ℕ) → lo ≤ z → z < hi → paint f lo hi a z ≡ a
unfolding paint
paint_in f lo hi a z l h = choose_yes a (f z) (test_painted lo hi z) (l, h)

pub paint_out : (f : ℕ → ℕ) (lo hi a z : ℕ) → ((lo ≤ z) × (z < hi) → ⊥) → paint f lo hi a z ≡ f z
unfolding paint
paint_out f lo hi a z h = choose_no a (f z) (test_painted lo hi z) h
