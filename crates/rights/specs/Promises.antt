-- What the rights call promises of tables (document 02, request 8), for every table handed in, any bytes of any length,
-- every scan, slots and point. Statements over the definitions of rights, lookup and load.
--     RightsNumber    no table is refused: the number is the same whatever the table
--     RightsOwn       whoever holds the pixel may place there
--     RightsRise      at a pixel that is not the asker's own, a yes to it is a yes to each asker of its class or of a
--                     higher one, staff above students above guests: a yes to a guest is one to every student, and a
--                     yes to a student one to all staff
--     RightsLoaded    after an accepted load an accepted call answers by the file's bytes: yes just where the byte in
--                     the asking class's row and the pixel's column is 1
--     RightsOld       a table that no load leaves answers as the old table, always
use Rattle.std.specs.Prelude.{◌≡◌, Bool, true, List, ◌↔◌, ℕ, ◌≤◌, ◌<◌}
use Rattle.refusal.specs.Refusal.{accepted}
use Rattle.bed.specs.declared.Scan.{Scan}
use Rattle.checks.specs.Asked.{asker_check}
use Rattle.table.specs.Table.{class_of, row_of, pixel_kind, old_table}
use Rattle.table.specs.Load.{load_of}
use Rattle.table.specs.Promises.{Yes, Loadable}
use Rattle.lookup.specs.Lookup.{lookup_of}
use Rattle.rights.specs.declared.RightAnswer.{RightAnswer}
use Rattle.rights.specs.Rights.{rights_of}

abbrev pub answered : ℕ → Bool → RightAnswer
answered number answer = record { number = number; yes = answer }

unfoldable pub RightsNumber : Type 0
RightsNumber = (table other : List ℕ) (scan : Scan) (slots : List ℕ) (c r p : ℕ) →
    (rights_of table scan slots c r p).number ≡ (rights_of other scan slots c r p).number

unfoldable pub RightsOwn : Type 0
RightsOwn = (table : List ℕ) (scan : Scan) (slots : List ℕ) (c r p : ℕ) →
    0 < p → (lookup_of scan slots c r).account ≡ p → rights_of table scan slots c r p ≡ answered accepted true

-- rows stand by class, staff's first; q asks besides p
unfoldable pub RightsRise : Type 0
RightsRise = (table : List ℕ) (scan : Scan) (slots : List ℕ) (c r p q : ℕ) →
    row_of (class_of q) ≤ row_of (class_of p) → asker_check q ≡ accepted →
    ((lookup_of scan slots c r).account ≡ p → ⊥) → (rights_of table scan slots c r p).yes ≡ true →
    rights_of table scan slots c r q ≡ answered accepted true

unfoldable pub RightsLoaded : Type 0
RightsLoaded = (file table : List ℕ) (scan : Scan) (slots : List ℕ) (c r p : ℕ) →
    (load_of file table).answer ≡ accepted → (rights_of (load_of file table).storage scan slots c r p).number ≡ accepted →
    ((rights_of (load_of file table).storage scan slots c r p).yes ≡ true)
    ↔ Yes file (row_of (class_of p)) (pixel_kind p (lookup_of scan slots c r).account)

unfoldable pub RightsOld : Type 0
RightsOld = (table : List ℕ) (scan : Scan) (slots : List ℕ) (c r p : ℕ) →
    (Loadable table → ⊥) → rights_of table scan slots c r p ≡ rights_of old_table scan slots c r p
