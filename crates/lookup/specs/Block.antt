-- The block that lookup names (document 02, request 4, "Lookup names the block", and request 5, "A free block of CR 4
-- must now be wholly scanned as well"). Definitions only.
--     tile_at d ts z     the first tile of ts that covers the pixel z, or d where none does
--     free_in b c k      the block of size k at the corner c is wholly nobody's and wholly scanned on the bed b
--     free_size b n z    for a nobody's pixel z, the largest size up to n of such a block that has z
--     free_block b z     that block, as a tile of nobody's
--     block_at b ts z    the block named: for somebody's pixel the tile of the bed's list ts, for a nobody's pixel the
--                       free block
--     Blank k n s f     what of the raster f is not among the first s pixels scanned, by the kind k, is nobody's
--     WhollyScanned b lo hi   each pixel from lo up to hi, hi left out, is scanned
--     Names b z t       t is the largest quadrant block that has the pixel z, is wholly scanned and has one account
-- That lookup answers what `Names` says, whoever has the pixel, and that there is one such block, is the promise
-- `LookupNames`.
use Rattle.std.specs.Prelude.{◌≡◌, Bool, true, false, ◌&&◌, not, List, [], ◌∷◌, ℕ, zero, suc, ◌+◌, ◌^◌, ◌≤◌, ◌<◌}
use Rattle.tile.specs.declared.Tile.{Tile}
use Rattle.tile.specs.Tile.{tile, stop, corner_at}
use Rattle.quadtree.specs.Raster.{Aligned, Covers, covers, Uniform, uniform}
use Rattle.bed.specs.declared.Kind.{Kind}
use Rattle.bed.specs.Places.{place_of, unscanned_in}
use Rattle.bed.specs.Bed.{Bed}

unfoldable pub tile_at : Tile → List Tile → ℕ → Tile
tile_at d [] z = d
tile_at d (t ∷ ts) z = elim (covers t z) [ true ↦ t | false ↦ tile_at d ts z ]

abbrev pub free_in : Bed → ℕ → ℕ → Bool
free_in b c k = uniform b.account 0 c (4 ^ k) && not (unscanned_in b.kind b.order b.scanned c k)

-- from the size n down; the pixel itself is a block of size 0
unfoldable pub free_size : Bed → ℕ → ℕ → ℕ
free_size b zero z = 0
free_size b (suc k) z = elim (free_in b (corner_at (suc k) z) (suc k)) [ true ↦ suc k | false ↦ free_size b k z ]

unfoldable pub free_block : Bed → ℕ → Tile
free_block b z = tile (corner_at (free_size b b.order z) z) (free_size b b.order z) 0

unfoldable pub block_at : Bed → List Tile → ℕ → Tile
block_at b ts z = tile_at (free_block b z) ts z

-- what is not scanned is nobody's
abbrev pub Blank : Kind → ℕ → ℕ → (ℕ → ℕ) → Type 0
Blank k n s f = (z : ℕ) → z < 4 ^ n → s ≤ place_of k n z → f z ≡ 0

abbrev pub WhollyScanned : Bed → ℕ → ℕ → Type 0
WhollyScanned b lo hi = (z : ℕ) → lo ≤ z → z < hi → place_of b.kind b.order z < b.scanned

-- the block is a quadrant of the bed and has the pixel; it is wholly scanned, and the bed has the block's account on
-- all of it; no larger quadrant block that has the pixel is both
pub record Names (b : Bed) (z : ℕ) (t : Tile) : Type 0 where
  pub fits : t.size ≤ b.order
  pub inside : t.corner < 4 ^ b.order
  pub aligned : Aligned t.size t.corner
  pub has : Covers t z
  pub scanned : WhollyScanned b t.corner (stop t)
  pub uniform : Uniform b.account t.account t.corner (stop t)
  pub top : (k c : ℕ) → t.size < k → k ≤ b.order → Aligned k c → c ≤ z → z < c + 4 ^ k →
      WhollyScanned b c (c + 4 ^ k) → Uniform b.account t.account c (c + 4 ^ k) → ⊥
