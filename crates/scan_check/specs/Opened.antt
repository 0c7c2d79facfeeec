-- Inner: what a scan record and its slots have that pass the opening checks. Definitions only.
--     Opened c slots   the list is valid and fits, the pixels scanned are in range, and what is not scanned is nobody's
use Rattle.std.specs.Prelude.{◌≡◌, List, ℕ, ◌^◌, ◌≤◌, ◌<◌, length}
use Rattle.tile.specs.Tile.{highest_order}
use Rattle.tile.specs.Slots.{tiles_in}
use Rattle.quadtree.specs.Raster.{account_at}
use Rattle.quadtree.specs.Valid.{Valid}
use Rattle.bed.specs.declared.Scan.{Scan}
use Rattle.bed.specs.Places.{place_of}

pub record Opened (c : Scan) (slots : List ℕ) : Type 0 where
  pub order : c.order ≤ highest_order
  pub count : c.tiles ≤ length slots
  pub valid : Valid c.order (tiles_in c.tiles slots)
  pub scanned : c.pixels ≤ 4 ^ c.order
  pub blank : (z : ℕ) → z < 4 ^ c.order → c.pixels ≤ place_of c.kind c.order z →
      account_at (tiles_in c.tiles slots) z ≡ 0
