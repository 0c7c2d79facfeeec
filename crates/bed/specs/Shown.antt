-- The bed that a scan record and the slots of its list show, on which calls go on. Definitions only.
--     shown_bed c slots   order, kind and pixels scanned are the record's, the accounts those of its list
use Rattle.std.specs.Prelude.{List, ℕ}
use Rattle.tile.specs.Slots.{tiles_in}
use Rattle.quadtree.specs.Raster.{account_at}
use Rattle.bed.specs.declared.Scan.{Scan}
use Rattle.bed.specs.Bed.{Bed, bed_of}

abbrev pub shown_bed : Scan → List ℕ → Bed
shown_bed c slots = bed_of c.kind c.order c.pixels (account_at (tiles_in c.tiles slots))
