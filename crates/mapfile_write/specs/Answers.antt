-- What C gets of the writer's answer. Definitions only.
--     write_answer r   the bytes written, or 0 behind the refusal's number
use Rattle.std.specs.Prelude.{ℕ, Result, Ok, Err}
use Rattle.refusal.specs.Refusal.{accepted}
use Rattle.refusal.specs.declared.Refusal.{Refusal}
use Rattle.refusal.specs.Refused.{number}
use Rattle.mapfile_write.specs.declared.WriteAnswer.{WriteAnswer}

abbrev pub write_answer : Result ℕ Refusal → WriteAnswer
write_answer (Ok l) = record { number = accepted; length = l }
write_answer (Err r) = record { number = number r; length = 0 }
