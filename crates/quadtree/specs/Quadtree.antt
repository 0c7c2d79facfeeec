-- The linear quadtree of a raster (document 01, "What the product holds"; document 001 decides what is stored).
-- Definitions only.
--     Largest n f t           t is a largest uniform block of a non-zero account, in the raster f of order n
--     Rising lo ts            the corners of ts rise strictly, and none is below lo
--     LinearQuadtree n f ts   ts is the linear quadtree of f: its largest uniform blocks of non-zero accounts, by
--                             rising corner
--     blocks f k c            the linear quadtree as a program, of the quadrant of size k at the corner c
--     quadtree n f            the same of the bed of order n
-- That `quadtree n f` is the `LinearQuadtree` is the law `quadtree_linear`.
use Rattle.std.specs.Prelude.{true, false, List, [], ◌∷◌, ◌++◌, ◌↔◌, ℕ, zero, suc, ◌+◌, ◌*◌, ◌^◌, ◌≤◌, ◌<◌}
use Rattle.tile.specs.declared.Tile.{Tile}
use Rattle.tile.specs.Tile.{tile, stop}
use Rattle.quadtree.specs.Raster.{Aligned, Uniform, uniform, Quadrant, ◌∈◌}

-- no larger quadrant of the bed that has the tile's corner is uniform with its account
pub record Largest (n : ℕ) (f : ℕ → ℕ) (t : Tile) : Type 0 where
  pub quadrant : Quadrant n t
  pub uniform : Uniform f t.account t.corner (stop t)
  pub top : (k c : ℕ) → t.size < k → k ≤ n → Aligned k c → c ≤ t.corner → t.corner < c + 4 ^ k →
      Uniform f t.account c (c + 4 ^ k) → ⊥

pub data Rising : ℕ → List Tile → Type 0 where
  end : {lo : ℕ} → Rising lo []
  link : {lo : ℕ} {t : Tile} {ts : List Tile} → lo ≤ t.corner → Rising (suc t.corner) ts → Rising lo (t ∷ ts)

pub record LinearQuadtree (n : ℕ) (f : ℕ → ℕ) (ts : List Tile) : Type 0 where
  pub rising : Rising 0 ts
  pub members : (t : Tile) → (t ∈ ts) ↔ Largest n f t

-- the one tile of an account, of which nobody's has none
unfoldable pub single : ℕ → ℕ → ℕ → List Tile
single c k zero = []
single c k (suc a) = tile c k (suc a) ∷ []

-- what g gives of the four quadrants, NW, NE, SW, SE, of the block of size k + 1 at the corner c
unfoldable pub four : (ℕ → List Tile) → ℕ → ℕ → List Tile
four g k c = g c ++ (g (c + 4 ^ k) ++ (g (c + 2 * 4 ^ k) ++ g (c + 3 * 4 ^ k)))

-- one tile or none where the quadrant is uniform, else the blocks of its four quadrants
unfoldable pub blocks : (ℕ → ℕ) → ℕ → ℕ → List Tile
unfolding four
blocks f zero c = single c zero (f c)
blocks f (suc k) c = elim (uniform f (f c) c (4 ^ suc k))
    [ true ↦ single c (suc k) (f c) | false ↦ four (λ x. blocks f k x) k c ]

unfoldable pub quadtree : ℕ → (ℕ → ℕ) → List Tile
quadtree n f = blocks f n 0
