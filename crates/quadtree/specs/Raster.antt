-- Rasters, and what a tile list shows (document 01, "What the product holds"). Definitions only.
-- A raster is a function from Morton number to account, of which the numbers below 4 ^ n are the bed's.
--     Aligned k x         x is a multiple of 4 ^ k; `aligned` is the test
--     Covers t z          the tile t covers the number z; `covers` is the test
--     Uniform f a lo hi   the raster f has the account a at each number from lo up to hi, hi left out; `uniform` is the
--                         test
--     account_at ts z      the account of the first tile of ts that covers z, or 0
--     paint f lo hi a     the raster f with the account a at the numbers from lo up to hi
--     Quadrant n t        t is a quadrant tile of a bed of order n
--     t ∈ ts              t is a tile of the list ts
--     Shows n f ts        the tile list ts shows the raster f of order n
use Rattle.std.specs.Prelude.{◌≡◌, Bool, true, false, ◌&&◌, ℕ, zero, suc, ◌+◌, ◌*◌, ◌%◌, ◌^◌, ◌≤◌, ◌<◌, leb, ltb, eqb}
use mathlib.Core.List.{List, [], ◌∷◌, Memᴰ}
use Rattle.tile.specs.declared.Tile.{Tile}
use Rattle.tile.specs.Tile.{stop}

infix 50 ◌∈◌
pub record Aligned (k x : ℕ) : Type 0 where
  pub times : ℕ
  pub is : x ≡ times * 4 ^ k

unfoldable pub aligned : ℕ → ℕ → Bool
aligned k x = eqb (x % 4 ^ k) 0

abbrev pub Covers : Tile → ℕ → Type 0
Covers t z = (t.corner ≤ z) × (z < stop t)

abbrev pub covers : Tile → ℕ → Bool
covers t z = leb t.corner z && ltb z (stop t)

abbrev pub Uniform : (ℕ → ℕ) → ℕ → ℕ → ℕ → Type 0
Uniform f a lo hi = (z : ℕ) → lo ≤ z → z < hi → f z ≡ a

-- the n numbers from lo on
unfoldable pub uniform : (ℕ → ℕ) → ℕ → ℕ → ℕ → Bool
uniform f a lo zero = true
uniform f a lo (suc n) = eqb (f (lo + n)) a && uniform f a lo n

unfoldable pub account_at : List Tile → ℕ → ℕ
account_at [] z = 0
account_at (t ∷ ts) z = elim (covers t z) [ true ↦ t.account | false ↦ account_at ts z ]

unfoldable pub paint : (ℕ → ℕ) → ℕ → ℕ → ℕ → ℕ → ℕ
paint f lo hi a z = elim (leb lo z && ltb z hi) [ true ↦ a | false ↦ f z ]

-- "A tile of size k (0 to n) covers a square .. Its corner is .. a multiple of 4^k"; no bound on the account is needed
-- but that it is somebody's
pub record Quadrant (n : ℕ) (t : Tile) : Type 0 where
  pub fits : t.size ≤ n
  pub inside : t.corner < 4 ^ n
  pub aligned : Aligned t.size t.corner
  pub owned : 0 < t.account

abbrev pub ◌∈◌ : Tile → List Tile → Type 0
t ∈ ts = Memᴰ t ts

-- "every tile on a somebody's pixel bears that pixel's account, at least one such tile is there, and no tile lies on a
-- nobody's pixel"
pub record Shows (n : ℕ) (f : ℕ → ℕ) (ts : List Tile) : Type 0 where
  pub quadrants : (t : Tile) → t ∈ ts → Quadrant n t
  pub bears : (z : ℕ) → z < 4 ^ n → 0 < f z → (t : Tile) → t ∈ ts → Covers t z → t.account ≡ f z
  pub held : (z : ℕ) → z < 4 ^ n → 0 < f z → (t : Tile) × (t ∈ ts) × Covers t z
  pub free : (z : ℕ) → z < 4 ^ n → f z ≡ 0 → (t : Tile) → t ∈ ts → Covers t z → ⊥
