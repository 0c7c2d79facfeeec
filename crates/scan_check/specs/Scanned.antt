-- What a call asks of the scan besides its map (document 02, request 5, "Unscanned is not free"): 52, one by one; the
-- calls put them in their order. Definitions only.
--     scanned_check c z           the pixel asked, by its Morton number
--     block_scanned_check c x k    the block asked, of size k at the corner x: no pixel of it may be unscanned
--     finished_check c            a scan of which a file is to be written
use Rattle.std.specs.Prelude.{not, ℕ, ◌^◌, eqb}
use Rattle.refusal.specs.Refusal.{accepted, unscanned}
use Rattle.refusal.specs.Checks.{must}
use Rattle.bed.specs.declared.Scan.{Scan}
use Rattle.bed.specs.Places.{scanned, unscanned_in}

unfoldable pub scanned_check : Scan → ℕ → ℕ
scanned_check c z = must (scanned c.kind c.order c.pixels z) unscanned accepted

unfoldable pub block_scanned_check : Scan → ℕ → ℕ → ℕ
block_scanned_check c x k = must (not (unscanned_in c.kind c.order c.pixels x k)) unscanned accepted

unfoldable pub finished_check : Scan → ℕ
finished_check c = must (eqb c.pixels (4 ^ c.order)) unscanned accepted
