-- Laws of tile words: packing and unpacking are inverse on everything that the checks accept.
--     Packable t          the size and the account of t have their places in a word
--     word_tile           each word is the word of its tile
--     tile_word           a packable tile is the tile of its word
--     tile_of_size         the size of a word's tile is below 16
--     tile_of_account      the account of a word's tile is at most the highest
--     tile_of_corner_low   a word whose corner lies in the largest bed is below the limit
--     word_of_low          the word of a packable tile in the largest bed is below the limit
--     mod_le              a remainder is at most the number
use mathlib.Core.Path.{◌≡◌}
use Prim.Native.Nat.{ℕ, ◌+◌, ◌*◌, ◌/◌, ◌%◌, ◌^◌, ◌≤◌, ◌<◌}
use native.Mathlib.Nat.{div-add-mod'}
use native.Mathlib.Omega.{arith}
use Rattle.tile.specs.declared.Tile.{Tile}
use Rattle.tile.specs.Tile.{tile_of, word_of, highest_order, highest_account, word_limit}

pub record Packable (t : Tile) : Type 0 where
  pub size : t.size < 16
  pub account : t.account ≤ highest_account

pub word_tile : (w : ℕ) → word_of (tile_of w) ≡ w
unfolding tile_of word_of
word_tile w = omega arith

pub tile_word : (t : Tile) → t.size < 16 → t.account ≤ highest_account → tile_of (word_of t) ≡ t
unfolding tile_of word_of
tile_word t h g = λ i. record { corner = a i; size = b i; account = c i }
  where
    a : (t.corner * 2 ^ 10 + t.size * 2 ^ 6 + t.account) / 2 ^ 10 ≡ t.corner
    a = omega arith

    b : (t.corner * 2 ^ 10 + t.size * 2 ^ 6 + t.account) / 2 ^ 6 % 2 ^ 4 ≡ t.size
    b = let q : (t.corner * 2 ^ 10 + t.size * 2 ^ 6 + t.account) / 2 ^ 6 ≡ t.corner * 2 ^ 4 + t.size = omega arith in omega arith

    c : (t.corner * 2 ^ 10 + t.size * 2 ^ 6 + t.account) % 2 ^ 6 ≡ t.account
    c = omega arith

pub tile_of_size : (w : ℕ) → (tile_of w).size < 16
unfolding tile_of
tile_of_size w = omega arith

pub tile_of_account : (w : ℕ) → (tile_of w).account ≤ highest_account
unfolding tile_of
tile_of_account w = omega arith

pub tile_of_corner_low : (w : ℕ) → (tile_of w).corner < 4 ^ highest_order → w < word_limit
unfolding tile_of
tile_of_corner_low w h = omega arith

pub word_of_low : (t : Tile) → t.corner < 4 ^ highest_order → t.size < 16 → t.account ≤ highest_account → word_of t < word_limit
unfolding word_of
word_of_low t h g l = omega arith

pub mod_le : (z a : ℕ) → z % a ≤ z
mod_le z a = omega (arith, div-add-mod' z a)
