-- The opening checks, which bound the order, then 52.
use mathlib.Core.Path.{◌∙◌, sym}
use native.Mathlib.Omega.{arith}
use Rattle.std.proofs.Common.{rules}
use Rattle.refusal.proofs.RefusedLaws.{else_refused, else_passed}
use Rattle.list_check.proofs.TreeLaws.{tree_order}
use Rattle.mapfile_write.specs.Writer.{ready_check}
use Rattle.mapfile_write.proofs.ready.Goals as goal

pub returns-in_err-tree-clause-number : goal.returns-in_err-tree-clause-number
unfolding ready_check
returns-in_err-tree-clause-number c = search (rules, else_refused)

pub returns-in_err-finished-clause-number : goal.returns-in_err-finished-clause-number
unfolding ready_check
returns-in_err-finished-clause-number c = rw (else_passed _ c.in_ok-tree.ensures.number) (search rules)

pub returns-clause-number : goal.returns-clause-number
unfolding ready_check
returns-clause-number c = c.in_ok-finished.ensures ∙ sym (else_passed _ c.in_ok-tree.ensures.number)

pub finished-requires : goal.finished-requires
finished-requires c = omega (arith, tree_order _ _ c.in_ok-tree.tree.passes, c.in_ok-tree.ensures.tree.0)
