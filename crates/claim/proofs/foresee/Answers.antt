-- The checks, the plan, 25.
use mathlib.Core.Path.{◌∙◌, sym}
use native.Mathlib.Omega.{arith}
use Rattle.std.proofs.lemmas.Result.{err_from_is_err_and}
use Rattle.refusal.proofs.RefusedLaws.{number_some}
use Rattle.claim.proofs.Refusals.{refusal_ahead}
use Rattle.claim.proofs.Whole.{known_few, tree_claimable, tree_known}
use Rattle.claim.proofs.foresee.Goals as goal

pub returns-in_err-tree : goal.returns-in_err-tree
returns-in_err-tree c =
    let a = c.args in
    let p = err_from_is_err_and c.from_residual.result c.from_residual.ensures.1 in
    let h = number_some c.in_err-tree.field-0.0 in
    let e = c.in_err-tree.ensures.number in
    rw (p.1, p.2) (refusal_ahead a.scan a.slots.now a.tile.corner a.tile.size a.tile.account (λ z. omega (arith, h, e, z)) ∙ sym e)

pub returns : goal.returns
returns c =
    let a = c.args in
    let e = c.in_ok-tree.ensures in
    (tree_known a.scan a.slots.now a.tile.corner a.tile.size a.tile.account e.number e.tree c.plan-planned.ensures, omega arith)

pub returns-then-slots-after : goal.returns-then-slots-after
returns-then-slots-after c =
    let a = c.args in
    let e = c.in_ok-tree.ensures in
    known_few (tree_known a.scan a.slots.now a.tile.corner a.tile.size a.tile.account e.number e.tree c.plan-planned.ensures) (omega arith)

pub plan-planned-requires : goal.plan-planned-requires
plan-planned-requires c =
    let a = c.args in
    let e = c.in_ok-tree.ensures in
    tree_claimable a.scan a.slots.now a.tile.corner a.tile.size a.tile.account e.number e.tree
