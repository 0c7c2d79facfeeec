-- List checking decides, or all pixels are scanned, or all checks are asked.
use Rattle.std.proofs.lemmas.Result.{err_from_is_err_and}
use Rattle.refusal.proofs.RefusedLaws.{number_some}
use Rattle.scan_check.proofs.Opening.{open_list, open_whole}
use Rattle.list_check.proofs.Accepts.{list_check_valid}
use mathlib.Core.Path.{sym}
use native.Mathlib.Omega.{arith}
use Rattle.scan_check.proofs.open_finished.Goals as goal

pub returns-in_err-tree-clause-number : goal.returns-in_err-tree-clause-number
returns-in_err-tree-clause-number c =
    let p = err_from_is_err_and c.from_residual.result c.from_residual.ensures.1 in
    let h = number_some c.in_err-tree.field-0.0 in
    rw (p.1, p.2) (open_list c.args.scan c.args.slots.now _ c.in_err-tree.ensures.number (λ z. omega (arith, h, z)))

pub returns-then-area-scan-clause-number : goal.returns-then-area-scan-clause-number
returns-then-area-scan-clause-number c = open_whole c.args.scan c.args.slots.now (sym c.in_ok-tree.ensures.number) (omega (arith, c.area.ensures, c.if-area-scan.true))

pub area-requires : goal.area-requires
area-requires c =
    let v = (list_check_valid c.args.scan.order c.args.scan.tiles c.args.slots.now).0 (sym c.in_ok-tree.ensures.number) in
    omega (arith, v.0)
