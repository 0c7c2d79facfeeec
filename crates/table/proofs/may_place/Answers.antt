-- The old table where a load would refuse the one handed in; else that one.
use Rattle.std.proofs.Common.{◌≡◌, ℕ, sym, arith}
use Rattle.refusal.specs.declared.Refusal.{Refusal}
use Rattle.refusal.specs.Refusal.{accepted}
use Rattle.refusal.specs.Refused.{number}
use Rattle.refusal.proofs.RefusedLaws.{number_some}
use Rattle.table.proofs.CountsLaws.{may_loaded, may_old}
use Rattle.table.proofs.may_place.Goals as goal

pub returns-in-Ok : goal.returns-in-Ok
returns-in-Ok c =
    let a = c.args in
    let e = c.in-Ok.ensures in
    may_loaded a.table.now a.asking a.holder c.of-class.result c.of-pixel.result c.of-class.ensures c.of-pixel.ensures (sym e.number) _
    (rw e.table at c.says.ensures)

-- the number of a refusal is not that of an acceptance
refused : (r : Refusal) (n : ℕ) → number r ≡ n → n ≡ accepted → ⊥
refused r n e z = omega (arith, number_some r, e, z)

pub returns-in-Err : goal.returns-in-Err
returns-in-Err c =
    let a = c.args in
    may_old a.table.now a.asking a.holder c.of-class.result c.of-pixel.result c.of-class.ensures c.of-pixel.ensures (refused _ _ c.in-Err.ensures.number)
