-- What C gets of the answers of the calls that are handed no map. Definitions only.
--     extent_answer, number_answer, block_answer, point_answer    the value, or zeros behind the refusal's number
use Rattle.std.specs.Prelude.{ℕ, Result, Ok, Err}
use Rattle.refusal.specs.Refusal.{accepted}
use Rattle.refusal.specs.declared.Refusal.{Refusal}
use Rattle.refusal.specs.Refused.{number}
use Rattle.tile.specs.declared.Block.{Block}
use Rattle.bed.specs.declared.Point.{Point}
use Rattle.points.specs.declared.Extent.{Extent}
use Rattle.points.specs.declared.ExtentAnswer.{ExtentAnswer}
use Rattle.points.specs.declared.MortonAnswer.{MortonAnswer}
use Rattle.points.specs.declared.BlockAnswer.{BlockAnswer}
use Rattle.points.specs.declared.PointAnswer.{PointAnswer}

abbrev pub extent_answer : Result Extent Refusal → ExtentAnswer
extent_answer (Ok e) = record { number = accepted; side = e.side; pixels = e.pixels }
extent_answer (Err r) = record { number = number r; side = 0; pixels = 0 }

abbrev pub number_answer : Result ℕ Refusal → MortonAnswer
number_answer (Ok z) = record { number = accepted; morton = z }
number_answer (Err r) = record { number = number r; morton = 0 }

abbrev pub block_answer : Result Block Refusal → BlockAnswer
block_answer (Ok b) = record { number = accepted; corner = b.corner; size = b.size }
block_answer (Err r) = record { number = number r; corner = 0; size = 0 }

abbrev pub point_answer : Result Point Refusal → PointAnswer
point_answer (Ok p) = record { number = accepted; column = p.column; row = p.row }
point_answer (Err r) = record { number = number r; column = 0; row = 0 }
