-- Inner: how a claim ends, found without a store. Definitions only.
--     plan_check scan s c k a    the checks ahead of the plan: the opening checks, 32, 52, 24
--     Known scan s c k a p      p is the plan of a claim that has passed these
--     Ends scan s c k a r       r is how the claim ends
use Rattle.std.specs.Prelude.{◌≡◌, List, ℕ, ◌≤◌, length, Result, Ok, Err}
use Rattle.refusal.specs.declared.Refusal.{Refusal}
use Rattle.refusal.specs.Refusal.{accepted}
use Rattle.refusal.specs.Refused.{number}
use Rattle.refusal.specs.Checks.{or_else}
use Rattle.tile.specs.Slots.{tiles_in}
use Rattle.bed.specs.declared.Scan.{Scan}
use Rattle.checks.specs.Asked.{block_check, given_check}
use Rattle.scan_check.specs.Opening.{opening}
use Rattle.scan_check.specs.Scanned.{block_scanned_check}
use Rattle.claim_plan.specs.declared.Planned.{Planned}
use Rattle.claim_plan.specs.Plan.{Claimable, Plans}
use Rattle.claim.specs.Claim.{claim_refusal}

unfoldable pub plan_check : Scan → List ℕ → ℕ → ℕ → ℕ → ℕ
plan_check scan s c k a = or_else (opening scan s)
    (or_else (block_check scan.order c k) (or_else (block_scanned_check scan c k) (given_check a)))

pub record Known (scan : Scan) (s : List ℕ) (c k a : ℕ) (p : Planned) : Type 0 where
  pub passed : plan_check scan s c k a ≡ accepted
  pub room : scan.tiles ≤ length s
  pub claimable : Claimable scan.order (tiles_in scan.tiles s) c k a
  pub planned : Plans scan.order (tiles_in scan.tiles s) c k a p

abbrev pub Ends : Scan → List ℕ → ℕ → ℕ → ℕ → Result Planned Refusal → Type 0
Ends scan s c k a (Err r) = claim_refusal scan s c k a ≡ number r
Ends scan s c k a (Ok p) = Known scan s c k a p × (p.tiles ≤ length s)
