-- Laws of counts of tiles, and of how many tiles of a sorted list lie ahead of a Morton number.
--     test_ahead                   what the test of a tile ahead tests
--     counted_yes, counted_no      a count by what its test says of the first tile
--     counted_none, counted_le     a count of none, and its bound
--     ahead_none                   no tile lies ahead of where the list starts
--     ahead_past, ahead_upto       what the tile at i says of how many are ahead
--     slot_past, slot_upto         what the tile in slot i says of it
--     ahead_cut                    the place of a Morton number among the slots is how many are ahead
use mathlib.Core.Path.{◌≡◌, refl}
use mathlib.Core.Bool.{Bool}
use mathlib.Core.List.Memᴰ
use mathlib.Core.List.{List, [], ◌∷◌}
use Prim.Native.Nat.{ℕ, zero, suc, ◌-◌, ◌≤◌, ◌<◌}
use native.Mathlib.Decide.{dec_lt}
use native.Mathlib.Omega.{arith}
use lib.ListN.{length, get_or}
use Rattle.basics.specs.Choice.{if}
use Rattle.basics.proofs.Tests.{Test, holds, fails, test_leb}
use Rattle.basics.proofs.ChoiceLaws.{if_yes, if_no}
use Rattle.tile.specs.declared.Tile.{Tile}
use Rattle.tile.specs.Tile.{tile_of}
use Rattle.tile.specs.Slots.{tiles_in}
use Rattle.tile.proofs.SlotsLaws.{length_tiles_in}
use Rattle.quadtree.specs.Raster.{◌∈◌}
use Rattle.quadtree.specs.Quadtree.{Rising, end, link}
use Rattle.quadtree.proofs.Chains.{rising_from, rising_at}
use Rattle.list_search.specs.Count.{counted, is_ahead}
use Rattle.list_search.specs.Cut.{Cut}
use Rattle.tile.proofs.SlotTiles.{tiles_in_at}

pub test_ahead : (c : ℕ) (u : Tile) → Test (u.corner < c) (is_ahead c u)
test_ahead c u = test_leb (suc u.corner) c

bit_le : {P : Type 0} {b : Bool} → Test P b → if b 1 0 ≤ 1
unfolding if
bit_le (holds p) = omega arith
bit_le (fails p) = omega arith

module _ {g : Tile → Bool} {P : Tile → Type 0} (test : (u : Tile) → Test (P u) (g u)) where
  pub counted_yes : (u : Tile) (us : List Tile) → P u → counted g (u ∷ us) ≡ suc (counted g us)
  unfolding counted
  counted_yes u us p = omega (arith, if_yes {A = ℕ} 1 0 (test u) p)

  pub counted_no : (u : Tile) (us : List Tile) → (P u → ⊥) → counted g (u ∷ us) ≡ counted g us
  unfolding counted
  counted_no u us p = omega (arith, if_no {A = ℕ} 1 0 (test u) p)

  pub counted_le : (us : List Tile) → counted g us ≤ length us
  unfolding counted
  counted_le [] = omega arith
  counted_le (u ∷ us) = omega (arith, bit_le (test u), counted_le us)

  pub counted_none : (us : List Tile) → ((u : Tile) → u ∈ us → P u → ⊥) → counted g us ≡ 0
  unfolding counted
  counted_none [] out = refl
  counted_none (u ∷ us) out = omega (arith, if_no {A = ℕ} 1 0 (test u) (out u (Memᴰ.head refl)), counted_none us (λ v i. out v (Memᴰ.tail i)))

pub ahead_none : {lo : ℕ} {us : List Tile} (c : ℕ) → Rising lo us → c ≤ lo → counted (is_ahead c) us ≡ 0
ahead_none {us = us} c r h = counted_none (test_ahead c) us (λ u i l. omega (arith, rising_from r i))

pub ahead_past : {lo : ℕ} {us : List Tile} (d : Tile) (i c : ℕ) → Rising lo us → i < length us → (get_or us i d).corner < c → i < counted (is_ahead c) us
ahead_past d i c end l h = absurd (omega arith)
ahead_past d zero c (link {t = t} {ts = ts} p r) l h = omega (arith, counted_yes (test_ahead c) t ts h)
ahead_past d (suc i) c (link {t = t} {ts = ts} p r) l h =
    let g = rising_at d i r (omega arith) in
    omega (arith, counted_yes (test_ahead c) t ts (omega arith), ahead_past d i c r (omega arith) h)

pub ahead_upto : {lo : ℕ} {us : List Tile} (d : Tile) (i c : ℕ) → Rising lo us → i < length us → c ≤ (get_or us i d).corner → counted (is_ahead c) us ≤ i
ahead_upto d i c end l h = absurd (omega arith)
ahead_upto d zero c (link {t = t} {ts = ts} p r) l h = omega (arith, ahead_none c (link {lo = t.corner} {t = t} (omega arith) r) h)
ahead_upto d (suc i) c (link {t = t} {ts = ts} p r) l h = cons (ahead_upto d i c r (omega arith) h)
  where
    cons : counted (is_ahead c) ts ≤ i → counted (is_ahead c) (t ∷ ts) ≤ suc i
    cons g = elim (dec_lt t.corner c) [
      | yes b ↦ omega (arith, counted_yes (test_ahead c) t ts b)
      | no b ↦ omega (arith, counted_no (test_ahead c) t ts b)
    ]

-- the same of a list in slots
module _ (t : ℕ) (slots : List ℕ) (count : t ≤ length slots) (rising : Rising 0 (tiles_in t slots)) (i z : ℕ) (h : i < t) where
  pub slot_past : (tile_of (get_or slots i 0)).corner < z → i < counted (is_ahead z) (tiles_in t slots)
  slot_past l = ahead_past (tile_of 0) i z rising (omega (arith, length_tiles_in t slots count)) (rw (tiles_in_at t slots i h) l)

  pub slot_upto : z ≤ (tile_of (get_or slots i 0)).corner → counted (is_ahead z) (tiles_in t slots) ≤ i
  slot_upto l = ahead_upto (tile_of 0) i z rising (omega (arith, length_tiles_in t slots count)) (rw (tiles_in_at t slots i h) l)

pub ahead_cut : (t : ℕ) (slots : List ℕ) → t ≤ length slots → Rising 0 (tiles_in t slots) → (z r : ℕ) → Cut slots 0 t z r → r ≡ counted (is_ahead z) (tiles_in t slots)
ahead_cut t slots count rising z r w = omega (arith, low, high)
  where
    low : r ≤ counted (is_ahead z) (tiles_in t slots)
    low = elim (dec_lt 0 r) [ yes h ↦ omega (arith, slot_past t slots count rising (r - 1) z (omega (arith, w.to)) (w.ahead h)) | no h ↦ omega arith ]

    high : counted (is_ahead z) (tiles_in t slots) ≤ r
    high = elim (dec_lt r t) [ yes h ↦ slot_upto t slots count rising r z h (w.behind h) | no h ↦ omega (arith, counted_le (test_ahead z) (tiles_in t slots), length_tiles_in t slots count) ]
