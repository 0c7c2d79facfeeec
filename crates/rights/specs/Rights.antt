-- Placement rights (document 01, "Other calls"; document 02, requests 5 and 8): may account p place at a pixel?
-- Definitions only.
--     rights_check ..                   the opening checks, then 31, 52, 34
--     rights_of table scan slots c r p  the offered call: the answer of the table that counts where `table` is handed in
use Rattle.std.specs.Prelude.{false, List, ℕ}
use Rattle.refusal.specs.Refusal.{accepted}
use Rattle.refusal.specs.Checks.{or_else, unless}
use Rattle.morton.specs.Morton.{morton}
use Rattle.tile.specs.Slots.{tiles_in}
use Rattle.quadtree.specs.Raster.{account_at}
use Rattle.bed.specs.declared.Scan.{Scan}
use Rattle.checks.specs.Asked.{point_check, asker_check}
use Rattle.scan_check.specs.Opening.{opening}
use Rattle.scan_check.specs.Scanned.{scanned_check}
use Rattle.table.specs.Table.{may_place}
use Rattle.table.specs.Load.{table_of}
use Rattle.rights.specs.declared.RightAnswer.{RightAnswer}

unfoldable pub rights_check : Scan → List ℕ → ℕ → ℕ → ℕ → ℕ
rights_check scan slots c r p = or_else (opening scan slots)
    (or_else (point_check scan.order c r) (or_else (scanned_check scan (morton scan.order c r)) (asker_check p)))

unfoldable pub rights_of : List ℕ → Scan → List ℕ → ℕ → ℕ → ℕ → RightAnswer
rights_of table scan slots c r p =
    unless (rights_check scan slots c r p)
    (λ number. record { number = number; yes = false })
    (record {
      number = accepted;
      yes = may_place (table_of table) p (account_at (tiles_in scan.tiles slots) (morton scan.order c r));
    })
