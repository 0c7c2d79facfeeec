-- Lookup's answer, then 34, then the table for the account found.
use mathlib.Core.Path.{refl}
use native.Mathlib.Omega.{arith}
use Rattle.std.proofs.lemmas.Result.{err_from_is_err_and}
use Rattle.refusal.proofs.RefusedLaws.{number_some}
use Rattle.rights.proofs.RightsLaws.{rights_of_lookup, rights_of_asker, rights_of_answer}
use Rattle.rights.proofs.rights.Goals as goal

pub returns-in_err-found : goal.returns-in_err-found
returns-in_err-found c =
    let a = c.args in
    let p = err_from_is_err_and c.from_residual.result c.from_residual.ensures.1 in
    let some = number_some c.in_err-found.field-0.0 in
    rw (p.1, p.2) (rights_of_lookup a.table.now a.scan a.slots.now a.point.column a.point.row a.asking _ c.in_err-found.ensures (λ e. omega (arith, some, e)))

pub returns-in_err-asker : goal.returns-in_err-asker
returns-in_err-asker c =
    let a = c.args in
    let p = err_from_is_err_and c.from_residual-in_err-asker.result c.from_residual-in_err-asker.ensures.1 in
    let some = number_some c.in_err-asker.field-0.0 in
    rw (p.1, p.2) (rights_of_asker a.table.now a.scan a.slots.now a.point.column a.point.row a.asking _ c.in_ok-found.ensures _ c.in_err-asker.ensures refl (λ e. omega (arith, some, e)))

pub returns : goal.returns
returns c =
    let a = c.args in
    rights_of_answer a.table.now a.scan a.slots.now a.point.column a.point.row a.asking _ c.in_ok-found.ensures _ c.in_ok-asker.ensures refl refl _ c.may_place.ensures
