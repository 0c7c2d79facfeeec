-- Inner: valid tile lists: those that pass checks 11 to 16 of document 01 as tiles. Definitions only.
--     Sound n lo t      checks 12 to 15 of the tile t, where the tile ahead of it ends at lo
--     Chain n lo ts     each tile of ts is sound, and the tile ahead of the first ends at lo
--     quarter k a p i   the i-th of the four quadrants, NW, NE, SW, SE, of the block of size k + 1 at the corner p, of
--                       the account a
--     Merged ts         check 16: no four siblings (01's brothers), the four quadrants of one block with one account,
--                       are all in ts
--     Valid n ts        ts is a valid list of order n
use Rattle.std.specs.Prelude.{List, [], ◌∷◌, ℕ, suc, ◌+◌, ◌*◌, ◌^◌, ◌≤◌, ◌<◌}
use Rattle.tile.specs.declared.Tile.{Tile}
use Rattle.tile.specs.Tile.{tile, stop}
use Rattle.quadtree.specs.Raster.{Aligned, Quadrant, ◌∈◌}

pub record Sound (n lo : ℕ) (t : Tile) : Type 0 where
  pub quadrant : Quadrant n t
  pub after : lo ≤ t.corner

pub data Chain (n : ℕ) : ℕ → List Tile → Type 0 where
  end : {lo : ℕ} → Chain n lo []
  link : {lo : ℕ} {t : Tile} {ts : List Tile} → Sound n lo t → Chain n (stop t) ts → Chain n lo (t ∷ ts)

abbrev pub quarter : ℕ → ℕ → ℕ → ℕ → Tile
quarter k a p i = tile (p + i * 4 ^ k) k a

abbrev pub Merged : List Tile → Type 0
Merged ts = (k a p : ℕ) → Aligned (suc k) p → ((i : ℕ) → i < 4 → quarter k a p i ∈ ts) → ⊥

pub record Valid (n : ℕ) (ts : List Tile) : Type 0 where
  pub chain : Chain n 0 ts
  pub merged : Merged ts
