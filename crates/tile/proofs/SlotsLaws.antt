-- Laws of tile lists in slots.
--     words_tiles       the words of the tiles of words are those words
--     tiles_words       the tiles of the words of packable tiles are those tiles
--     length_tiles_in    there are as many tiles as are asked for
--     filled_length     m slots are m slots
--     tiles_in_filled    a list left in slots is read from them
--     filled_tiles_in    the list read from slots and left again is their own words
use mathlib.Core.Path.{◌≡◌, ◌∙◌, refl, ap}
use mathlib.Core.List.{List, [], ◌∷◌, ◌++◌, map, Memᴰ}
use Prim.Native.Nat.{ℕ, ◌-◌, ◌≤◌}
use native.Mathlib.Omega.{arith}
use lib.ListN.{length, take, replicate, length-append, length-replicate, length-map}
use lib.Seq.{length-take-le, take_at}
use Rattle.tile.specs.declared.Tile.{Tile}
use Rattle.tile.specs.Tile.{tile_of, word_of}
use Rattle.tile.specs.Slots.{tiles_in, filled}
use Rattle.tile.proofs.TileLaws.{Packable, word_tile, tile_word}

pub words_tiles : (ws : List ℕ) → map word_of (map tile_of ws) ≡ ws
words_tiles [] = refl
words_tiles (w ∷ ws) = rw (word_tile w, words_tiles ws)

pub tiles_words : (ts : List Tile) → ((t : Tile) → Memᴰ t ts → Packable t) → map tile_of (map word_of ts) ≡ ts
tiles_words [] p = refl
tiles_words (t ∷ ts) p = let q = p t (Memᴰ.head refl) in rw (tile_word t q.size q.account, tiles_words ts (λ u m. p u (Memᴰ.tail m)))

pub length_tiles_in : (t : ℕ) (slots : List ℕ) → t ≤ length slots → length (tiles_in t slots) ≡ t
unfolding tiles_in
length_tiles_in t slots h = length-map (take t slots) tile_of ∙ length-take-le t slots h

pub filled_length : (m : ℕ) (ts : List Tile) → length ts ≤ m → length (filled m ts) ≡ m
unfolding filled
filled_length m ts h = simp (length-append, length-map, length-replicate) (omega arith)

pub tiles_in_filled : (m : ℕ) (ts : List Tile) → ((t : Tile) → Memᴰ t ts → Packable t) → tiles_in (length ts) (filled m ts) ≡ ts
unfolding tiles_in filled
tiles_in_filled m ts p = ap (λ (ws : List ℕ). map tile_of ws) (take_at (map word_of ts) (replicate (m - length ts) 0) (length ts) (length-map ts word_of)) ∙ tiles_words ts p

pub filled_tiles_in : (m t : ℕ) (slots : List ℕ) → t ≤ length slots → filled m (tiles_in t slots) ≡ take t slots ++ replicate (m - t) 0
unfolding filled tiles_in
filled_tiles_in m t slots h = rw (words_tiles (take t slots), length-map (take t slots) tile_of, length-take-le t slots h)
