-- Inner: how a tile merges with the tiles of the words ahead of it. Definitions only.
--     up_to t q             the tile of size q and t's account that ends where t ends
--     EndsWith ts e k a    ts ends with the three siblings ahead of the tile of size k and account a that ends at e
--     Room s i e k a       such siblings are asked for among the first i words of s
--     Three s i e k a r    r says whether these words end with them
--     MergedInto s i t m   how far the tile t merges with the first i words: in each raster it goes together with those
--                          from m.at on into the tile of size m .size, and what is left does not end with this tile's
--                          siblings
use Rattle.std.specs.Prelude.{◌≡◌, Bool, true, false, List, ◌++◌, ℕ, suc, ◌+◌, ◌-◌, ◌*◌, ◌^◌, ◌≤◌, length, take}
use Rattle.tile.specs.declared.Tile.{Tile}
use Rattle.tile.specs.Tile.{tile, stop, highest_order, highest_account}
use Rattle.tile.specs.Slots.{tiles}
use Rattle.quadtree.specs.Raster.{Aligned}
use Rattle.quadtree.specs.Tiling.{equal_tiles, Between}
use Rattle.list_push.specs.declared.Top.{Top}

abbrev pub up_to : Tile → ℕ → Tile
up_to t q = tile (stop t - 4 ^ q) q t.account

-- the three siblings ahead of a tile end the list
abbrev pub EndsWith : List Tile → ℕ → ℕ → ℕ → Type 0
EndsWith ts e k a = (h : List Tile) × (p : ℕ) × (e ≡ p + 4 * 4 ^ k) × (ts ≡ h ++ equal_tiles k a 3 p)

-- three words before the i-th may be those siblings, and their numbers are packed
pub record Room (s : List ℕ) (i e k a : ℕ) : Type 0 where
  pub long : 3 ≤ i
  pub within : i ≤ length s
  pub room : 4 * 4 ^ k ≤ e
  pub inside : e ≤ 4 ^ highest_order
  pub few : k ≤ highest_order
  pub low : a ≤ highest_account

pub record Three (s : List ℕ) (i e k a : ℕ) (r : Bool) : Type 0 where
  pub are : r ≡ true → tiles (take i s) ≡ tiles (take (i - 3) s) ++ equal_tiles k a 3 (e - 4 * 4 ^ k)
  pub are_not : r ≡ false → EndsWith (tiles (take i s)) e k a → ⊥

pub record MergedInto (s : List ℕ) (i : ℕ) (t : Tile) (m : Top) : Type 0 where
  pub at : m.at ≤ i
  pub room : 4 ^ m.size ≤ stop t
  pub few : m.size ≤ highest_order
  pub between : (n : ℕ) (g : ℕ → ℕ) (b : List Tile) →
      Between g n (tiles (take i s)) b t → Between g n (tiles (take m.at s)) b (up_to t m.size)
  pub ended : Aligned (suc m.size) (stop t) → EndsWith (tiles (take m.at s)) (stop t) m.size t.account → ⊥
