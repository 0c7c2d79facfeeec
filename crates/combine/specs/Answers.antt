-- Combine's answer as C gets it.
--     combine_answer x    refused, the refusal's number and 0
use Rattle.std.specs.Prelude.{ℕ, Result, Ok, Err}
use Rattle.refusal.specs.declared.Refusal.{Refusal}
use Rattle.refusal.specs.Refusal.{accepted}
use Rattle.refusal.specs.Refused.{number}
use Rattle.combine.specs.declared.CombineAnswer.{CombineAnswer}

abbrev pub combine_answer : Result ℕ Refusal → CombineAnswer
combine_answer (Ok t) = record { number = accepted; tiles = t }
combine_answer (Err r) = record { number = number r; tiles = 0 }
