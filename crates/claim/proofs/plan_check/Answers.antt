-- The opening checks, which bound the order, then 32, 52, 24.
use mathlib.Core.Path.{sym}
use Rattle.std.proofs.Common.{rules}
use Rattle.refusal.proofs.RefusedLaws.{else_passed, else_refused}
use Rattle.checks.proofs.AskedLaws.{block_passed}
use Rattle.scan_check.proofs.Opening.{opening_opened}
use Rattle.claim.specs.Outcome.{plan_check}
use Rattle.claim.proofs.plan_check.Goals as goal

pub returns-in_err-tree-clause-number : goal.returns-in_err-tree-clause-number
unfolding plan_check
returns-in_err-tree-clause-number c = search (rules, else_refused)

pub returns-in_err-block-clause-number : goal.returns-in_err-block-clause-number
unfolding plan_check
returns-in_err-block-clause-number c = rw (else_passed _ c.in_ok-tree.ensures.number) (search (rules, else_refused))

pub returns-in_err-block_scanned-clause-number : goal.returns-in_err-block_scanned-clause-number
unfolding plan_check
returns-in_err-block_scanned-clause-number c =
    rw (else_passed _ c.in_ok-tree.ensures.number, else_passed _ c.in_ok-block.ensures) (search (rules, else_refused))

pub returns-in_err-given-clause-number : goal.returns-in_err-given-clause-number
unfolding plan_check
returns-in_err-given-clause-number c =
    rw (else_passed _ c.in_ok-tree.ensures.number, else_passed _ c.in_ok-block.ensures, else_passed _ c.in_ok-block_scanned.ensures) (search rules)

pub returns-clause-number : goal.returns-clause-number
unfolding plan_check
returns-clause-number c =
    rw (else_passed _ c.in_ok-tree.ensures.number, else_passed _ c.in_ok-block.ensures, else_passed _ c.in_ok-block_scanned.ensures) c.in_ok-given.ensures

pub block-requires : goal.block-requires
block-requires c = (opening_opened c.args.scan c.args.slots.now (sym c.in_ok-tree.ensures.number)).order

pub block_scanned-requires : goal.block_scanned-requires
block_scanned-requires c =
    let a = c.args in
    let p = block_passed a.scan.order a.tile.corner a.tile.size (sym c.in_ok-block.ensures) in
    ((opening_opened a.scan a.slots.now (sym c.in_ok-tree.ensures.number)).order, p.0, p.1.0, p.1.1)
