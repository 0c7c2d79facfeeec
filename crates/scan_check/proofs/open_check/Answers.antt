-- List checking, then 21 and 22, which no list meets once all pixels are scanned.
use Rattle.std.proofs.lemmas.Result.{err_from_is_err_and}
use Rattle.refusal.proofs.RefusedLaws.{number_some}
use Rattle.scan_check.proofs.Opening.{open_list, open_pixels, open_whole, open_tiles, open_passed}
use Rattle.list_check.proofs.TreeLaws.{tree_tiles}
use Rattle.list_check.proofs.Accepts.{list_check_valid}
use mathlib.Core.Path.{◌∙◌, sym}
use native.Mathlib.Omega.{arith}
use Rattle.scan_check.proofs.open_check.Goals as goal

pub returns-in_err-tree-clause-number : goal.returns-in_err-tree-clause-number
returns-in_err-tree-clause-number c =
    let p = err_from_is_err_and c.from_residual.result c.from_residual.ensures.1 in
    let h = number_some c.in_err-tree.field-0.0 in
    rw (p.1, p.2) (open_list c.args.scan c.args.slots.now _ c.in_err-tree.ensures.number (λ z. omega (arith, h, z)))

pub area-area-requires : goal.area-area-requires
area-area-requires c =
    let a = c.args in
    let v = (list_check_valid a.scan.order a.scan.tiles a.slots.now).0 (sym c.in_ok-tree.ensures.number) in omega (arith, v.0)

pub returns-then-area-scan-clause-number : goal.returns-then-area-scan-clause-number
returns-then-area-scan-clause-number c =
    let a = c.args in
    open_pixels a.scan a.slots.now (sym c.in_ok-tree.ensures.number) (omega (arith, c.area-area.ensures, c.if-area-scan.true))

pub returns-then-area-scan-2-clause-number : goal.returns-then-area-scan-2-clause-number
returns-then-area-scan-2-clause-number c =
    let a = c.args in
    open_whole a.scan a.slots.now (sym c.in_ok-tree.ensures.number) (omega (arith, c.area-area.ensures, c.if-area-scan.false, c.if-area-scan-2.true))

pub returns-then-covers_unscanned-clause-number : goal.returns-then-covers_unscanned-clause-number
returns-then-covers_unscanned-clause-number c =
    let a = c.args in
    open_tiles a.scan a.slots.now (sym c.in_ok-tree.ensures.number) (omega (arith, c.area-area.ensures, c.if-area-scan.false))
    (sym c.if-covers_unscanned.true ∙ rw (tree_tiles _ _ c.in_ok-tree.ensures.tree.1) c.covers_unscanned.ensures)

pub returns-clause-number : goal.returns-clause-number
returns-clause-number c =
    let a = c.args in
    open_passed a.scan a.slots.now (sym c.in_ok-tree.ensures.number) (omega (arith, c.area-area.ensures, c.if-area-scan.false))
    (sym c.if-covers_unscanned.false ∙ rw (tree_tiles _ _ c.in_ok-tree.ensures.tree.1) c.covers_unscanned.ensures)
