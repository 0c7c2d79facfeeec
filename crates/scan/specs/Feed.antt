-- Feed (document 01, "Scanning"), through the plain bed. Definitions only.
--     Fed, fed_answer f       the answer, with the number of its refusal
--     feed_of c slots bytes    the offered call: refused by its opening checks it changes nothing; past them it answers
--                             what the feed of the plain bed answers, and leaves the linear quadtree of the bed that
--                             this leaves, with the other slots 0
use Rattle.std.specs.Prelude.{List, ℕ, length}
use Rattle.refusal.specs.Checks.{unless, After}
use Rattle.tile.specs.declared.Tile.{Tile}
use Rattle.tile.specs.Slots.{filled}
use Rattle.quadtree.specs.Quadtree.{quadtree}
use Rattle.bed.specs.declared.Scan.{Scan}
use Rattle.bed.specs.Places.{scan_of}
use Rattle.bed.specs.Bed as bed
use Rattle.bed.specs.Shown.{shown_bed}
use Rattle.scan_check.specs.Opening.{opening}
use Rattle.refusal.specs.Refused.{said}
use Rattle.scan.specs.declared.Fed as code

-- a feed's answer: the count taken and the new record
pub record Fed : Type 0 where
  pub number : ℕ
  pub taken : ℕ
  pub scan : Scan

abbrev pub fed_answer : code.Fed → Fed
fed_answer f = record { number = said f.end; taken = f.taken; scan = f.scan }

-- the answer and the m slots, of what the plain bed gives
unfoldable pub fed_to : ℕ → bed.BedFed → After Fed
fed_to m r =
    let ts : List Tile = quadtree r.bed.order r.bed.account in
    record {
      answer = record {
        number = r.number;
        taken = r.taken;
        scan = scan_of r.bed.kind r.bed.order r.bed.scanned (length ts);
      };
      storage = filled m ts;
    }

unfoldable pub feed_of : Scan → List ℕ → List ℕ → After Fed
feed_of c slots bytes =
    unless (opening c slots)
    (λ number. record { answer = record { number = number; taken = 0; scan = c }; storage = slots })
    (fed_to (length slots) (bed.feed_pixels (length slots) 0 (shown_bed c slots) bytes))
