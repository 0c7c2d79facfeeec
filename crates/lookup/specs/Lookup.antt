-- Lookup (document 01, "Other calls"; document 02, requests 4 and 5): the account at a column and a row, and the block
-- that has it. Definitions only.
--     lookup_check ..             the opening checks, then 31, then 52
--     found_of b                  the answer that names the block b
--     lookup_of scan slots c r    the offered call
use Rattle.std.specs.Prelude.{List, ℕ}
use Rattle.refusal.specs.Refusal.{accepted}
use Rattle.refusal.specs.Checks.{or_else, unless}
use Rattle.morton.specs.Morton.{morton}
use Rattle.tile.specs.declared.Tile.{Tile}
use Rattle.tile.specs.Slots.{tiles_in}
use Rattle.bed.specs.declared.Scan.{Scan}
use Rattle.bed.specs.Shown.{shown_bed}
use Rattle.checks.specs.Asked.{point_check}
use Rattle.scan_check.specs.Opening.{opening}
use Rattle.scan_check.specs.Scanned.{scanned_check}
use Rattle.lookup.specs.declared.LookupAnswer.{LookupAnswer}
use Rattle.lookup.specs.Block.{block_at}

unfoldable pub lookup_check : Scan → List ℕ → ℕ → ℕ → ℕ
lookup_check scan slots c r = or_else (opening scan slots)
    (or_else (point_check scan.order c r) (scanned_check scan (morton scan.order c r)))

abbrev pub found_of : Tile → LookupAnswer
found_of b = record { number = accepted; account = b.account; corner = b.corner; size = b.size }

unfoldable pub lookup_of : Scan → List ℕ → ℕ → ℕ → LookupAnswer
lookup_of scan slots c r =
    unless (lookup_check scan slots c r)
    (λ number. record { number = number; account = 0; corner = 0; size = 0 })
    (found_of (block_at (shown_bed scan slots) (tiles_in scan.tiles slots) (morton scan.order c r)))
