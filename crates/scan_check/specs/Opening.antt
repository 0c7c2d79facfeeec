-- The checks that a call on a scan begins with, its opening checks (document 01, "Refusals by the place of the check";
-- document 02, request 5). Definitions only.
--     covers_unscanned c ts    a tile of ts covers a pixel that the record c has not scanned
--     opening c slots         1, 2 and 11 to 16 of the list, then 21 and 22 of the record
use Rattle.std.specs.Prelude.{Bool, false, not, ◌||◌, List, [], ◌∷◌, ℕ, ◌^◌, leb}
use Rattle.refusal.specs.Refusal.{accepted, scanned_too_large, tile_unscanned}
use Rattle.refusal.specs.Checks.{must, or_else}
use Rattle.tile.specs.declared.Tile.{Tile}
use Rattle.tile.specs.Slots.{tiles_in}
use Rattle.list_check.specs.ListCheck.{list_check}
use Rattle.bed.specs.declared.Scan.{Scan}
use Rattle.bed.specs.Places.{unscanned_in}

unfoldable pub covers_unscanned : Scan → List Tile → Bool
covers_unscanned c [] = false
covers_unscanned c (t ∷ ts) =
    unscanned_in c.kind c.order c.pixels t.corner t.size || covers_unscanned c ts

unfoldable pub opening : Scan → List ℕ → ℕ
opening c slots =
    or_else (list_check c.order c.tiles slots)
    (must (leb c.pixels (4 ^ c.order)) scanned_too_large
    (must (not (covers_unscanned c (tiles_in c.tiles slots))) tile_unscanned accepted))
