-- Lookup's answer as C gets it.
--     lookup_answer x    refused, the refusal's number and 0 in all else
use Rattle.std.specs.Prelude.{Result, Ok, Err}
use Rattle.refusal.specs.declared.Refusal.{Refusal}
use Rattle.refusal.specs.Refused.{number}
use Rattle.tile.specs.declared.Tile.{Tile}
use Rattle.lookup.specs.declared.LookupAnswer.{LookupAnswer}
use Rattle.lookup.specs.Lookup.{found_of}

abbrev pub lookup_answer : Result Tile Refusal → LookupAnswer
lookup_answer (Ok t) = found_of t
lookup_answer (Err r) = record { number = number r; account = 0; corner = 0; size = 0 }
