-- What C gets of the answers of the calls on positions in mils. Definitions only.
--     answered_pixel, answered_hundredths, answered_text    the value, or 0 behind the refusal's number
use Rattle.std.specs.Prelude.{ℕ, Result, Ok, Err}
use Rattle.refusal.specs.Refusal.{accepted}
use Rattle.refusal.specs.declared.Refusal.{Refusal}
use Rattle.refusal.specs.Refused.{number}
use Rattle.mils.specs.declared.PixelAnswer.{PixelAnswer}
use Rattle.mils.specs.declared.HundredthsAnswer.{HundredthsAnswer}
use Rattle.mils.specs.declared.TextAnswer.{TextAnswer}

abbrev pub answered_pixel : Result ℕ Refusal → PixelAnswer
answered_pixel (Ok p) = record { number = accepted; pixel = p }
answered_pixel (Err r) = record { number = number r; pixel = 0 }

abbrev pub answered_hundredths : Result ℕ Refusal → HundredthsAnswer
answered_hundredths (Ok h) = record { number = accepted; h = h }
answered_hundredths (Err r) = record { number = number r; h = 0 }

abbrev pub answered_text : Result ℕ Refusal → TextAnswer
answered_text (Ok l) = record { number = accepted; length = l }
answered_text (Err r) = record { number = number r; length = 0 }
