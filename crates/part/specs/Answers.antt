-- Quadrant part's answer as C gets it.
--     part_answer x    refused, the refusal's number and zeros
use Rattle.std.specs.Prelude.{Result, Ok, Err}
use Rattle.refusal.specs.declared.Refusal.{Refusal}
use Rattle.refusal.specs.Refusal.{accepted}
use Rattle.refusal.specs.Refused.{number}
use Rattle.part.specs.declared.Part.{Part}
use Rattle.part.specs.declared.PartAnswer.{PartAnswer}

abbrev pub part_answer : Result Part Refusal → PartAnswer
part_answer (Ok p) = record { number = accepted; position = p.position; length = p.length }
part_answer (Err r) = record { number = number r; position = 0; length = 0 }
