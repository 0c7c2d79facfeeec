-- A preview answers what the claim answers, done on a copy of the list with as many slots.
--     claim_preview    on the slots themselves: one refusal, and one count
--     preview_copy    nothing of it depends on what stands behind the list
--     preview_claim   both: the promise
use mathlib.Core.Path.{◌≡◌, ◌∙◌, refl, ap, sym}
use mathlib.Core.List.{List, map}
use Prim.Native.Nat.{ℕ}
use Rattle.refusal.specs.Checks.{After}
use Rattle.refusal.proofs.CheckLaws.{unless_alike}
use Rattle.tile.specs.Tile.{tile_of}
use Rattle.tile.specs.Slots.{tiles_in}
use Rattle.list_check.specs.ListCheck.{list_check}
use Rattle.bed.specs.declared.Scan.{Scan}
use Rattle.scan_check.specs.Opening.{opening}
use Rattle.claim.specs.declared.ClaimAnswer.{ClaimAnswer}
use Rattle.claim.specs.Claim.{claim_refusal, claim_of}
use Rattle.claim.specs.Preview.{preview_of, Copies, PreviewIsClaim}

pub claim_preview : (scan : Scan) (slots : List ℕ) (c k a : ℕ) → (claim_of scan slots c k a).answer ≡ preview_of scan slots c k a
unfolding claim_of preview_of
claim_preview scan slots c k a = unless_alike (λ (x : After ClaimAnswer) (y : ClaimAnswer). x.answer ≡ y) (claim_refusal scan slots c k a) (λ number. refl) (λ e. refl)

tiles_copy : {t : ℕ} {slots copy : List ℕ} → Copies t slots copy → tiles_in t copy ≡ tiles_in t slots
unfolding tiles_in
tiles_copy h = ap (λ (x : List ℕ). map tile_of x) h.list

checks_copy : (scan : Scan) {slots copy : List ℕ} → Copies scan.tiles slots copy → opening scan copy ≡ opening scan slots
unfolding opening list_check
checks_copy scan h = rw (tiles_copy h, h.list, h.lent) refl

preview_copy : (scan : Scan) (slots copy : List ℕ) (c k a : ℕ) → Copies scan.tiles slots copy → preview_of scan copy c k a ≡ preview_of scan slots c k a
unfolding preview_of claim_refusal
preview_copy scan slots copy c k a h = rw (checks_copy scan h, tiles_copy h, h.lent) refl

pub preview_claim : PreviewIsClaim
unfolding PreviewIsClaim
preview_claim scan slots copy c k a h = sym (claim_preview scan copy c k a ∙ preview_copy scan slots copy c k a h)
