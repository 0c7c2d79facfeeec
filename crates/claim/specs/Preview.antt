-- Preview (document 02, requests 3, "See a claim before making it", and 5): what a claim would answer, with nothing
-- stored. Definitions only.
--     preview_of scan slots c k a   the offered call, handed what a claim is handed: the claim's refusal, or the tile
--                                  count after the claim
--     Copies t slots copy          `copy` has the list of the first t slots, and as many slots; behind the list it may
--                                  hold anything
--     PreviewIsClaim               what a preview answers is what the claim answers, done on any such copy
use Rattle.std.specs.Prelude.{◌≡◌, List, ℕ, length, take}
use Rattle.refusal.specs.Refusal.{accepted}
use Rattle.refusal.specs.Checks.{unless}
use Rattle.quadtree.specs.Quadtree.{quadtree}
use Rattle.bed.specs.declared.Scan.{Scan}
use Rattle.bed.specs.Bed.{claimed}
use Rattle.bed.specs.Shown.{shown_bed}
use Rattle.claim.specs.declared.ClaimAnswer.{ClaimAnswer}
use Rattle.claim.specs.Claim.{claim_refusal, claim_of}

unfoldable pub preview_of : Scan → List ℕ → ℕ → ℕ → ℕ → ClaimAnswer
preview_of scan slots c k a = unless (claim_refusal scan slots c k a)
    (λ number. record { number = number; tiles = 0 })
    (record {
      number = accepted;
      tiles = length (quadtree scan.order (claimed (shown_bed scan slots).account c k a));
    })

pub record Copies (t : ℕ) (slots copy : List ℕ) : Type 0 where
  pub list : take t copy ≡ take t slots
  pub lent : length copy ≡ length slots

-- for every record, slots, block and account, accepted or refused; `copy` may be the slots themselves
unfoldable pub PreviewIsClaim : Type 0
PreviewIsClaim = (scan : Scan) (slots copy : List ℕ) (c k a : ℕ) → Copies scan.tiles slots copy →
    preview_of scan slots c k a ≡ (claim_of scan copy c k a).answer
