-- The rights call's answer as C gets it.
--     right_answer x    refused, the refusal's number and no
use Rattle.std.specs.Prelude.{Bool, false, Result, Ok, Err}
use Rattle.refusal.specs.declared.Refusal.{Refusal}
use Rattle.refusal.specs.Refusal.{accepted}
use Rattle.refusal.specs.Refused.{number}
use Rattle.rights.specs.declared.RightAnswer.{RightAnswer}

abbrev pub right_answer : Result Bool Refusal → RightAnswer
right_answer (Ok b) = record { number = accepted; yes = b }
right_answer (Err r) = record { number = number r; yes = false }
