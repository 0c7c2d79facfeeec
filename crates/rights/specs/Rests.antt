-- The rights call rests on lookup's answer (document 02, requests 4 and 5), whatever the table handed in. Statements
-- over the definitions of both calls.
--     RightsByLookup   for every input: lookup's refusal, then 34, then the table that counts, for the account that
--                      lookup answers
--     RightsAlike      whoever asks, every pixel of the block that lookup names has the same answer
--     RightsScanned    no account may place at a pixel that is not scanned, or off the bed (request 5)
use Rattle.std.specs.Prelude.{◌≡◌, true, false, List, ℕ, ◌^◌, ◌<◌}
use Rattle.refusal.specs.Refusal.{accepted}
use Rattle.refusal.specs.Checks.{or_else, unless}
use Rattle.morton.specs.Morton.{morton, Square}
use Rattle.bed.specs.declared.Scan.{Scan}
use Rattle.bed.specs.Places.{place_of}
use Rattle.checks.specs.Asked.{asker_check}
use Rattle.lookup.specs.Lookup.{lookup_of}
use Rattle.table.specs.Table.{may_place}
use Rattle.table.specs.Load.{table_of}
use Rattle.rights.specs.Rights.{rights_of}

unfoldable pub RightsByLookup : Type 0
RightsByLookup = (table : List ℕ) (scan : Scan) (slots : List ℕ) (c r p : ℕ) →
    rights_of table scan slots c r p
    ≡ unless (or_else (lookup_of scan slots c r).number (asker_check p))
    (λ number. record { number = number; yes = false })
    (record { number = accepted; yes = may_place (table_of table) p (lookup_of scan slots c r).account })

unfoldable pub RightsAlike : Type 0
RightsAlike = (table : List ℕ) (scan : Scan) (slots : List ℕ) (c r c' r' p : ℕ) →
    (lookup_of scan slots c r).number ≡ accepted →
    Square scan.order (lookup_of scan slots c r).size (lookup_of scan slots c r).corner c' r' →
    rights_of table scan slots c' r' p ≡ rights_of table scan slots c r p

unfoldable pub RightsScanned : Type 0
RightsScanned = (table : List ℕ) (scan : Scan) (slots : List ℕ) (c r p : ℕ) →
    (rights_of table scan slots c r p).yes ≡ true →
    (c < 2 ^ scan.order) × (r < 2 ^ scan.order)
    × (place_of scan.kind scan.order (morton scan.order c r) < scan.pixels)
