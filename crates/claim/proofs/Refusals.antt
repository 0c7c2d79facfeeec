-- The refusals of a claim, in their order, and what a claim gives by them.
--     check_then_slots         the checks ahead of the plan, then 25
--     refusal_ahead            a refusal by the checks ahead of the plan decides
--     checked_claimable        what passes them is claimable
--     refusal_passed           and only 25 is left
--     claim_of_refused, -done   a claim's answer and storage, by the refusal
use mathlib.Core.Path.{◌≡◌, ◌∙◌, refl, ap, sym}
use mathlib.Core.Bool.{Bool, not}
use mathlib.Core.List.{List}
use Prim.Native.Nat.{ℕ, ◌≤◌}
use native.Mathlib.Omega.{arith}
use lib.Dec.{leb}
use lib.ListN.{length}
use Rattle.basics.proofs.Tests.{test_leb}
use Rattle.refusal.specs.Refusal.{accepted, account_too_large, slots_exceeded, block_invalid, unscanned}
use Rattle.refusal.specs.Checks.{must, or_else, After}
use Rattle.refusal.specs.declared.Refusal.{Refusal}
use Rattle.refusal.specs.Refused.{number}
use Rattle.refusal.proofs.RefusedLaws.{unless_refused}
use Rattle.refusal.proofs.CheckLaws.{must_inv, else_on, else_off, else_inv, else_else, else_must, unless_on}
use Rattle.tile.specs.declared.Tile.{Tile}
use Rattle.tile.specs.Tile.{highest_account}
use Rattle.tile.specs.Slots.{tiles_in, filled}
use Rattle.quadtree.specs.Raster.{account_at}
use Rattle.quadtree.specs.Quadtree.{quadtree}
use Rattle.bed.specs.declared.Scan.{Scan}
use Rattle.bed.specs.Places.{unscanned_in}
use Rattle.bed.specs.Bed.{block_in, is_account, claimed, claim_check}
use Rattle.checks.specs.Asked.{block_check, given_check}
use Rattle.checks.proofs.AskedLaws.{block_passed}
use Rattle.scan_check.specs.Opening.{opening}
use Rattle.scan_check.specs.Scanned.{block_scanned_check}
use Rattle.scan_check.proofs.Opening.{opening_opened}
use Rattle.claim_plan.specs.Plan.{Claimable}
use Rattle.claim.specs.declared.ClaimAnswer.{ClaimAnswer}
use Rattle.claim.specs.Claim.{claim_refusal, claim_of}
use Rattle.claim.specs.Outcome.{plan_check}

module _ (scan : Scan) (slots : List ℕ) (c k a : ℕ) where
  abbrev ts : List Tile
  ts = quadtree scan.order (claimed (account_at (tiles_in scan.tiles slots)) c k a)

  pub claim_of_refused : (r : Refusal) → claim_refusal scan slots c k a ≡ number r → ◌≡◌ {A = After ClaimAnswer} (record { answer = record { number = number r; tiles = 0 }; storage = slots }) (claim_of scan slots c k a)
  unfolding claim_of
  claim_of_refused r e = unless_refused r (λ number. record { answer = record { number = number; tiles = 0 }; storage = slots }) (record { answer = record { number = accepted; tiles = length ts }; storage = filled (length slots) ts }) (sym e)

  pub claim_of_done : claim_refusal scan slots c k a ≡ accepted → ◌≡◌ {A = After ClaimAnswer} (record { answer = record { number = accepted; tiles = length ts }; storage = filled (length slots) ts }) (claim_of scan slots c k a)
  unfolding claim_of
  claim_of_done e = sym (unless_on (claim_refusal scan slots c k a) (λ number. record { answer = record { number = number; tiles = 0 }; storage = slots }) (record { answer = record { number = accepted; tiles = length ts }; storage = filled (length slots) ts }) e)

  -- 25, which is checked last
  abbrev last : ℕ
  last = must (leb (length ts) (length slots)) slots_exceeded accepted

  abbrev clear : Bool
  clear = not (unscanned_in scan.kind scan.order scan.pixels c k)

  check_then_slots : claim_refusal scan slots c k a ≡ or_else (plan_check scan slots c k a) last
  unfolding claim_refusal claim_check plan_check block_check block_scanned_check given_check or_else
  check_then_slots =
      let G = given_check a in
      let S = block_scanned_check scan c k in
      let B = block_check scan.order c k in
      let given : or_else G last ≡ must (is_account a) account_too_large last = else_must (is_account a) account_too_large accepted last (omega arith) refl in
      let seen : or_else S (or_else G last) ≡ must clear unscanned (must (is_account a) account_too_large last) = else_must clear unscanned accepted (or_else G last) (omega arith) given in
      let block : or_else B (or_else S (or_else G last)) ≡ must (block_in scan.order c k) block_invalid (must clear unscanned (must (is_account a) account_too_large last)) =
      else_must (block_in scan.order c k) block_invalid accepted (or_else S (or_else G last)) (omega arith) seen in
      sym (else_else (opening scan slots) (or_else B (or_else S G)) last ∙ ap (λ (x : ℕ). or_else (opening scan slots) x)
      (else_else B (or_else S G) last ∙ ap (λ (x : ℕ). or_else B x) (else_else S G last) ∙ block))

  pub refusal_ahead : (plan_check scan slots c k a ≡ accepted → ⊥) → claim_refusal scan slots c k a ≡ plan_check scan slots c k a
  refusal_ahead ne = check_then_slots ∙ else_off (plan_check scan slots c k a) last ne

  pub checked_claimable : plan_check scan slots c k a ≡ accepted → (scan.tiles ≤ length slots) × Claimable scan.order (tiles_in scan.tiles slots) c k a
  unfolding plan_check given_check
  checked_claimable e =
      let p = else_inv (opening scan slots) (or_else (block_check scan.order c k) (or_else (block_scanned_check scan c k) (given_check a))) e in
      let q = else_inv (block_check scan.order c k) (or_else (block_scanned_check scan c k) (given_check a)) p.1 in
      let r = else_inv (block_scanned_check scan c k) (given_check a) q.1 in
      let l = opening_opened scan slots p.0 in
      let b = block_passed scan.order c k q.0 in
      let d = must_inv (test_leb a highest_account) (omega arith) r.1 in
      (l.count, record { order = l.order; valid = l.valid; size = b.0; inside = b.1.0; aligned = b.1.1; account = d.0 })

  pub refusal_passed : plan_check scan slots c k a ≡ accepted → claim_refusal scan slots c k a ≡ last
  refusal_passed e = check_then_slots ∙ else_on (plan_check scan slots c k a) last e
