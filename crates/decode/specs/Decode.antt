-- Decode (document 01, "Other calls"): the accounts of a map, row after row. Definitions only.
--     decode_check ..              1, 2, 11 to 16, then 33
--     decode_of n t slots raster   the offered call: its number, and what the raster lent to it holds afterwards
use Rattle.std.specs.Prelude.{List, ℕ, ◌^◌, eqb, length}
use Rattle.refusal.specs.Refusal.{accepted, raster_length}
use Rattle.refusal.specs.Checks.{must, or_else, unless, After}
use Rattle.tile.specs.Slots.{tiles_in}
use Rattle.quadtree.specs.Raster.{account_at}
use Rattle.list_check.specs.ListCheck.{list_check}
use Rattle.bed.specs.Places.{rows}

unfoldable pub decode_check : ℕ → ℕ → List ℕ → List ℕ → ℕ
decode_check n t slots raster = or_else (list_check n t slots) (must (eqb (length raster) (4 ^ n)) raster_length accepted)

unfoldable pub decode_of : ℕ → ℕ → List ℕ → List ℕ → After ℕ
decode_of n t slots raster =
    unless (decode_check n t slots raster)
    (λ number. record { answer = number; storage = raster })
    (record { answer = accepted; storage = rows n (account_at (tiles_in t slots)) })
