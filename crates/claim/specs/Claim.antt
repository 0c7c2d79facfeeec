-- Claim (document 01, "Other calls"; document 02, request 5): every pixel of a quadrant block gets an account; 0
-- releases it. The pixels scanned stay the same. Definitions only.
--     claim_refusal ..              the opening checks, then 32, 52, 24, 25 as on the plain bed
--     claim_of scan slots c k a     the offered call: the list becomes the linear quadtree of the result, with the other
--                                  slots 0
use Rattle.std.specs.Prelude.{List, ℕ, length}
use Rattle.refusal.specs.Refusal.{accepted}
use Rattle.refusal.specs.Checks.{or_else, unless, After}
use Rattle.tile.specs.declared.Tile.{Tile}
use Rattle.tile.specs.Slots.{filled}
use Rattle.quadtree.specs.Quadtree.{quadtree}
use Rattle.bed.specs.declared.Scan.{Scan}
use Rattle.bed.specs.Bed.{claimed, claim_check}
use Rattle.bed.specs.Shown.{shown_bed}
use Rattle.scan_check.specs.Opening.{opening}
use Rattle.claim.specs.declared.ClaimAnswer.{ClaimAnswer}

unfoldable pub claim_refusal : Scan → List ℕ → ℕ → ℕ → ℕ → ℕ
claim_refusal scan slots c k a = or_else (opening scan slots) (claim_check (length slots) (shown_bed scan slots) c k a)

unfoldable pub claim_of : Scan → List ℕ → ℕ → ℕ → ℕ → After ClaimAnswer
claim_of scan slots c k a =
    let ts : List Tile = quadtree scan.order (claimed (shown_bed scan slots).account c k a) in
    unless (claim_refusal scan slots c k a)
    (λ number. record { answer = record { number = number; tiles = 0 }; storage = slots })
    (record { answer = record { number = accepted; tiles = length ts }; storage = filled (length slots) ts })
