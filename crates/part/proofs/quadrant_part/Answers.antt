-- The checks of the list, then 32; behind them the part is that of the checked list.
use mathlib.Core.Path.{sym}
use native.Mathlib.Omega.{arith}
use Rattle.std.proofs.Common.{rules}
use Rattle.refusal.proofs.RefusedLaws.{else_passed, else_refused, unless_refused}
use Rattle.list_check.proofs.TreeLaws.{tree_order}
use Rattle.part.specs.Part.{part_check, part_of}
use Rattle.part.proofs.InsideLaws.{part_of_words}
use Rattle.part.proofs.quadrant_part.Goals as goal

pub returns-in_err-map : goal.returns-in_err-map
unfolding part_check part_of
returns-in_err-map c = search (rules, else_refused, unless_refused)

pub returns-in_err-block : goal.returns-in_err-block
unfolding part_check part_of
returns-in_err-block c = rw (else_passed _ c.in_ok-map.ensures.number) (search (rules, unless_refused))

pub returns : goal.returns
returns c =
    let tree = c.in_ok-map.ensures.tree in
    part_of_words _ _ _ _ _ (sym c.in_ok-map.ensures.number) (sym c.in_ok-block.ensures) tree.1 c.inside.ensures

pub block-requires : goal.block-requires
block-requires c = omega (arith, tree_order _ _ c.in_ok-map.map.passes, c.in_ok-map.ensures.tree.0)
