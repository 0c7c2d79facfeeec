-- What C gets for the answer of a claim, and of its preview. Definitions only.
--     claim_answer r   the number of the answer r, and the tile count, 0 for a refusal
use Rattle.std.specs.Prelude.{ℕ, Result, Ok, Err}
use Rattle.refusal.specs.declared.Refusal.{Refusal}
use Rattle.refusal.specs.Refusal.{accepted}
use Rattle.refusal.specs.Refused.{number}
use Rattle.claim.specs.declared.ClaimAnswer.{ClaimAnswer}

abbrev pub claim_answer : Result ℕ Refusal → ClaimAnswer
claim_answer (Ok tiles) = record { number = accepted; tiles = tiles }
claim_answer (Err r) = record { number = number r; tiles = 0 }
