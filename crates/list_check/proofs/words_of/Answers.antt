-- Checks 1 and 2 refuse, or pass.
use native.Mathlib.Omega.{arith}
use Rattle.list_check.proofs.HeadLaws.{list_order, list_count}
use Rattle.list_check.proofs.words_of.Goals as goal

pub returns-then-order-gt-HIGHEST_ORDER : goal.returns-then-order-gt-HIGHEST_ORDER
returns-then-order-gt-HIGHEST_ORDER c =
    let a = c.args in
    list_order a.order a.tiles a.slots.now (omega arith)

pub returns-then-slots-tiles : goal.returns-then-slots-tiles
returns-then-slots-tiles c =
    let a = c.args in
    list_count a.order a.tiles a.slots.now (omega arith) (omega arith)
