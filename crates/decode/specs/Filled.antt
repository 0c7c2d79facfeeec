-- Inner: what the parts of decoding change of the bytes of a raster: ys is xs with the account a on a part of it.
-- Definitions only.
--     SpanFilled xs from to a ys                             on the bytes from `from` up to `to`
--     RectangleFilled width xs column row columns rows a ys  on a rectangle of a raster whose rows have `width` bytes
--     TileFilled n t xs ys                                  on the tile t of a raster of order n, by rows, with the
--                          account of t
use Rattle.std.specs.Prelude.{◌≡◌, List, ℕ, ◌+◌, ◌*◌, ◌^◌, ◌≤◌, ◌<◌, length, get_or}
use Rattle.tile.specs.declared.Tile.{Tile}
use Rattle.quadtree.specs.Raster.{Covers}
use Rattle.bed.specs.declared.Kind.TheVariants.{Rows}
use Rattle.bed.specs.Places.{place_of}

pub record SpanFilled (xs : List ℕ) (from to a : ℕ) (ys : List ℕ) : Type 0 where
  pub long : length ys ≡ length xs
  pub inside : (p : ℕ) → from ≤ p → p < to → get_or ys p 0 ≡ a
  pub outside : (p : ℕ) → (from ≤ p → p < to → ⊥) → get_or ys p 0 ≡ get_or xs p 0

-- the pixel in column c and row r lies in a rectangle
pub record Within (column row columns rows c r : ℕ) : Type 0 where
  pub west : column ≤ c
  pub east : c < column + columns
  pub north : row ≤ r
  pub south : r < row + rows

pub record RectangleFilled (width : ℕ) (xs : List ℕ) (column row columns rows a : ℕ) (ys : List ℕ) : Type 0 where
  pub long : length ys ≡ length xs
  pub inside : (c r : ℕ) → c < width → Within column row columns rows c r → get_or ys (r * width + c) 0 ≡ a
  pub outside : (c r : ℕ) → c < width → (Within column row columns rows c r → ⊥) →
      get_or ys (r * width + c) 0 ≡ get_or xs (r * width + c) 0

pub record TileFilled (n : ℕ) (t : Tile) (xs ys : List ℕ) : Type 0 where
  pub long : length ys ≡ length xs
  pub inside : (z : ℕ) → z < 4 ^ n → Covers t z → get_or ys (place_of Rows n z) 0 ≡ t.account
  pub outside : (z : ℕ) → z < 4 ^ n → (Covers t z → ⊥) → get_or ys (place_of Rows n z) 0 ≡ get_or xs (place_of Rows n z) 0
