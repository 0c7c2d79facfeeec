-- Fresh scan (document 01, "Scanning"). Definitions only.
--     Fresh                the answer, with the number of its refusal
--     fresh_answer k r     the answer to what was asked for the kind k
--     fresh_of k n slots   the offered call: 1 alone is checked; accepted, all lent slots are 0
use Rattle.std.specs.Prelude.{Result, Ok, Err, List, ℕ, leb, length, replicate}
use Rattle.refusal.specs.Refusal.{accepted, order_too_large}
use Rattle.refusal.specs.Checks.{must, unless, After}
use Rattle.tile.specs.Tile.{highest_order}
use Rattle.bed.specs.declared.Kind.{Kind}
use Rattle.bed.specs.Places.{scan_of}
use Rattle.bed.specs.declared.Scan.{Scan}
use Rattle.refusal.specs.declared.Refusal.{Refusal}
use Rattle.refusal.specs.Refused as refused

-- a fresh scan's answer: the record of the kind asked, with all its numbers 0 where it is refused
pub record Fresh : Type 0 where
  pub number : ℕ
  pub scan : Scan

abbrev pub fresh_answer : Kind → Result Scan Refusal → Fresh
fresh_answer k (Ok c) = record { number = accepted; scan = c }
fresh_answer k (Err r) = record { number = refused.number r; scan = scan_of k 0 0 0 }

unfoldable pub fresh_of : Kind → ℕ → List ℕ → After Fresh
fresh_of k n slots =
    unless (must (leb n highest_order) order_too_large accepted)
    (λ number. record { answer = record { number = number; scan = scan_of k 0 0 0 }; storage = slots })
    (record { answer = record { number = accepted; scan = scan_of k n 0 0 }; storage = replicate (length slots) 0 })
