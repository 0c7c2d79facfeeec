-- The outcome's answer.
use mathlib.Core.Path.{◌∙◌, ap}
use Rattle.std.proofs.lemmas.Result.{err_from_is_err_and}
use Rattle.refusal.specs.Checks.{After}
use Rattle.claim.specs.declared.ClaimAnswer.{ClaimAnswer}
use Rattle.claim.proofs.Refusals.{claim_of_refused}
use Rattle.claim.proofs.PreviewLaws.{claim_preview}
use Rattle.claim.proofs.Whole.{known_preview}
use Rattle.claim.proofs.preview.Goals as goal

pub returns-in_err-planned : goal.returns-in_err-planned
returns-in_err-planned c =
    let a = c.args in
    let p = err_from_is_err_and c.from_residual.result c.from_residual.ensures.1 in
    rw (p.1, p.2) (
    ap (λ (x : After ClaimAnswer). x.answer) (claim_of_refused a.scan a.slots.now a.tile.corner a.tile.size a.tile.account _ c.in_err-planned.ensures)
    ∙ claim_preview a.scan a.slots.now a.tile.corner a.tile.size a.tile.account
    )

pub returns : goal.returns
returns c = let f = c.in_ok-planned.ensures in known_preview f.0 f.1
