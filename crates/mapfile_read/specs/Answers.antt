-- What C gets of the reader's answer. Definitions only.
--     read_answer r   the reading, or zeros behind the refusal's number
use Rattle.std.specs.Prelude.{Result, Ok, Err}
use Rattle.refusal.specs.Refusal.{accepted}
use Rattle.refusal.specs.declared.Refusal.{Refusal}
use Rattle.refusal.specs.Refused.{number}
use Rattle.mapfile_read.specs.declared.Reading.{Reading}
use Rattle.mapfile_read.specs.declared.ReadAnswer.{ReadAnswer}

abbrev pub read_answer : Result Reading Refusal → ReadAnswer
read_answer (Ok r) = record { number = accepted; order = r.order; tiles = r.tiles }
read_answer (Err r) = record { number = number r; order = 0; tiles = 0 }
