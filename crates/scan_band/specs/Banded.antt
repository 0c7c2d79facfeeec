-- Inner: a band put at once. Definitions only.
--     Banded   the band of size k from the row r on got its accounts, if it was free and slots suffice: the list is
--              that of the raster with its bytes laid in turn
use Rattle.std.specs.Prelude.{◌≡◌, List, ℕ, ◌+◌, ◌≤◌, length}
use Rattle.tile.specs.Slots.{tiles}
use Rattle.quadtree.specs.Quadtree.{quadtree}
use Rattle.bed.specs.declared.Kind.TheVariants.{Rows}
use Rattle.scan_gap.specs.Gap.{held, Fits}
use Rattle.scan_gap.specs.declared.Gap.{Gap}
use Rattle.scan_stretch.specs.Stretch.{laid, Blank}
use Rattle.scan_block.specs.Blocks.{byte_at}
use Rattle.scan_ways.specs.Bands.{first, many, band_weight}

pub record Banded (s t : List ℕ) (i b n d : ℕ) (bytes : List ℕ) (r k : ℕ) (g : Gap) : Type 0 where
  pub fits : Fits t g.front g.back
  pub on : (f : ℕ → ℕ) → Blank Rows n (first n r) f → length (quadtree n f) + band_weight n d bytes r k + 1 ≤ length s →
      tiles (held s i b) ≡ quadtree n f →
      tiles (held t g.front g.back) ≡ quadtree n (laid Rows n (first n r) (byte_at bytes d) (many n k) f)
