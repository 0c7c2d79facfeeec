-- Inner: the stretch of nobody's between two tiles of a list, and the largest block in it that has a pixel. Definitions
-- only.
--     stretch_from slots i        where the tile ahead of slot i stops; 0 where none is ahead
--     stretch_upto n t slots i    where the tile in slot i of the t starts, or the bed of order n ends
--     Lies lo hi k z             the block of size k that has the pixel z lies from lo up to hi
--     LargestIn lo hi z k        k is the largest size of such a block
--     ScannedTo scan size z k    k is the largest size up to `size` of a block that has z and is wholly scanned
use Rattle.std.specs.Prelude.{ℕ, zero, suc, ◌+◌, ◌^◌, ◌≤◌, ◌<◌, List, ltb, get_or}
use Rattle.basics.specs.Choice.{if}
use Rattle.tile.specs.Tile.{stop, corner_at, tile_of}
use Rattle.bed.specs.declared.Scan.{Scan}
use Rattle.bed.specs.Places.{place_of}

unfoldable pub stretch_from : List ℕ → ℕ → ℕ
stretch_from slots zero = 0
stretch_from slots (suc i) = stop (tile_of (get_or slots i 0))

unfoldable pub stretch_upto : ℕ → ℕ → List ℕ → ℕ → ℕ
stretch_upto n t slots i = if (ltb i t) (tile_of (get_or slots i 0)).corner (4 ^ n)

abbrev pub Lies : ℕ → ℕ → ℕ → ℕ → Type 0
Lies lo hi k z = (lo ≤ corner_at k z) × (corner_at k z + 4 ^ k ≤ hi)

pub record LargestIn (lo hi z k : ℕ) : Type 0 where
  pub lies : Lies lo hi k z
  pub top : Lies lo hi (suc k) z → ⊥

-- the block of size k that has z is wholly scanned
abbrev pub Scanned : Scan → ℕ → ℕ → Type 0
Scanned scan k z = (y : ℕ) → corner_at k z ≤ y → y < corner_at k z + 4 ^ k →
    place_of scan.kind scan.order y < scan.pixels

pub record ScannedTo (scan : Scan) (size z k : ℕ) : Type 0 where
  pub low : k ≤ size
  pub scanned : Scanned scan k z
  pub top : k < size → Scanned scan (suc k) z → ⊥
