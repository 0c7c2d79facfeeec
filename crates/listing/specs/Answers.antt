-- Listings as code has them, and their answers. Definitions only.
--     bed_lines, lines_of    the lines of what is listed
--     tiles_listed           how many tiles are listed
--     refused_listing        what is listed where a refusal comes ahead of the scan
--     listed                 a listing's answer as a record: the bytes written, or 0 behind the refusal's number
use Rattle.std.specs.Prelude.{List, ℕ, Option, Some, None, Result, Ok, Err, length}
use Rattle.refusal.specs.Refusal.{accepted}
use Rattle.refusal.specs.declared.Refusal.{Refusal}
use Rattle.refusal.specs.Refused.{number}
use Rattle.listing.specs.declared.Bed.{Bed}
use Rattle.listing.specs.declared.Listing.{Listing}
use Rattle.listing.specs.Listing.{Listed, stop_line, scan_lines}

abbrev pub bed_lines : Option Bed → ℕ → ℕ → List ℕ
bed_lines None number taken = stop_line number taken
bed_lines (Some b) number taken = scan_lines b.order (length b.words.now) b.words.now number taken

abbrev pub lines_of : Listing → List ℕ
lines_of l = bed_lines l.bed l.number l.taken

abbrev pub tiles_of : Option Bed → ℕ
tiles_of None = 0
tiles_of (Some b) = length b.words.now

abbrev pub tiles_listed : Listing → ℕ
tiles_listed l = tiles_of l.bed

abbrev pub refused_listing : Refusal → Listing
refused_listing r = record { bed = None; number = number r; taken = 0 }

abbrev pub listed : Result ℕ Refusal → Listed
listed (Ok l) = record { number = accepted; length = l }
listed (Err r) = record { number = number r; length = 0 }
