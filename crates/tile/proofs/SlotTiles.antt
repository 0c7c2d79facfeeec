-- Single tiles and stretches of a list in slots.
--     tiles_in_at     the i-th tile of a list is that of the i-th slot
--     tiles_in_part   a stretch of the list's tiles is that of its slots
--     tiles_in_front  the tiles at the front of the list are those at the front of its slots
--     get_d_in        the tile at an index is a member of the list
--     tiles_in_in     and so is that of a slot of the list
use mathlib.Core.Path.{◌≡◌, refl, ◌∙◌, ap, sym}
use mathlib.Core.List.{List, [], ◌∷◌, map, Memᴰ}
use Prim.Native.Nat.{ℕ, zero, suc, ◌+◌, ◌≤◌, ◌<◌}
use native.Mathlib.Omega.{arith}
use lib.ListN.{length, take, drop, get_or, get_or-map}
use lib.Seq.{get_or-take, take-nil}
use Rattle.tile.specs.declared.Tile.{Tile}
use Rattle.tile.specs.Tile.{tile_of}
use Rattle.tile.specs.Slots.{tiles_in}
use Rattle.tile.proofs.SlotsLaws.{length_tiles_in}

pub tiles_in_at : (t : ℕ) (slots : List ℕ) (i : ℕ) → i < t → get_or (tiles_in t slots) i (tile_of 0) ≡ tile_of (get_or slots i 0)
unfolding tiles_in
tiles_in_at t slots i h = get_or-map tile_of (take t slots) i 0 ∙ ap tile_of (get_or-take t slots i 0 h)

pub tiles_in_part : (a m t : ℕ) (slots : List ℕ) → a + m ≤ t → take m (drop a (tiles_in t slots)) ≡ map tile_of (take m (drop a slots))
unfolding tiles_in
tiles_in_part zero zero t slots h = refl
tiles_in_part zero (suc m) zero slots h = absurd (omega arith)
tiles_in_part zero (suc m) (suc t) [] h = refl
tiles_in_part zero (suc m) (suc t) (w ∷ slots) h = ap (λ (l : List Tile). tile_of w ∷ l) (tiles_in_part zero m t slots (omega arith))
tiles_in_part (suc a) m zero slots h = absurd (omega arith)
tiles_in_part (suc a) m (suc t) [] h = take-nil m ∙ ap (λ (l : List ℕ). map tile_of l) (sym (take-nil m))
tiles_in_part (suc a) m (suc t) (w ∷ slots) h = tiles_in_part a m t slots (omega arith)

pub tiles_in_front : (m t : ℕ) (slots : List ℕ) → m ≤ t → take m (tiles_in t slots) ≡ tiles_in m slots
unfolding tiles_in
tiles_in_front m t slots h = tiles_in_part 0 m t slots (omega arith)

pub get_d_in : (us : List Tile) (i : ℕ) (d : Tile) → i < length us → Memᴰ (get_or us i d) us
get_d_in [] i d l = absurd (omega arith)
get_d_in (u ∷ us) zero d l = Memᴰ.head refl
get_d_in (u ∷ us) (suc i) d l = Memᴰ.tail (get_d_in us i d (omega arith))

pub tiles_in_in : (t : ℕ) (slots : List ℕ) (i : ℕ) → i < t → t ≤ length slots → Memᴰ (tile_of (get_or slots i 0)) (tiles_in t slots)
tiles_in_in t slots i h l = rw (← tiles_in_at t slots i h) (get_d_in (tiles_in t slots) i (tile_of 0) (omega (arith, length_tiles_in t slots l)))
