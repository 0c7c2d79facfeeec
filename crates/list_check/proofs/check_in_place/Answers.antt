-- A refusal up to the head's end is the list's, and so is none where the list ends there; else the rest decides.
use mathlib.Core.Path.{◌∙◌, sym, refl}
use native.Mathlib.Omega.{arith}
use Rattle.std.proofs.lemmas.Result.{err_from_is_err_and}
use Rattle.refusal.proofs.RefusedLaws.{number_some}
use Rattle.list_check.proofs.HeadLaws.{begun_ready}
use Rattle.list_check.proofs.TreeLaws.{tree_passes}
use Rattle.list_check.proofs.check_in_place.Goals as goal

pub returns-in_err-check_head-clause-number : goal.returns-in_err-check_head-clause-number
returns-in_err-check_head-clause-number c =
    let p = err_from_is_err_and c.from_residual.result c.from_residual.ensures.1 in
    let h = number_some c.in_err-check_head.field-0.0 in
    rw (p.1, p.2) (c.in_err-check_head.ensures.refused (λ z. omega (arith, h, z)))

pub returns-then-tiles-le-HEAD-clause-number : goal.returns-then-tiles-le-HEAD-clause-number
returns-then-tiles-le-HEAD-clause-number c = c.in_ok-check_head.ensures.whole refl (omega arith)

pub returns-in_err-check_words-clause-number : goal.returns-in_err-check_words-clause-number
returns-in_err-check_words-clause-number c =
    let r = c.from_residual-in_err-check_words in
    let p = err_from_is_err_and r.result r.ensures.1 in
    rw (p.1, p.2) (c.in_err-check_words.ensures ∙ c.in_ok-check_head.ensures.rest refl)

pub returns-clause-number : goal.returns-clause-number
returns-clause-number c = c.in_ok-check_words.ensures ∙ c.in_ok-check_head.ensures.rest refl

pub slice_bounds-words-end : goal.slice_bounds-words-end
slice_bounds-words-end c = sym (c.in_ok-check_head.ensures.count refl)

pub check_words-requires : goal.check_words-requires
check_words-requires c = begun_ready c.in_ok-check_head.ensures refl (omega arith)

pub invariant_of-result : goal.invariant_of-result
invariant_of-result c =
    let a = c.args in
    record { passes = tree_passes a.order a.tiles a.slots.now (sym (c.in_ok-check_head.ensures.whole refl (omega arith))) }

pub invariant_of-result-2 : goal.invariant_of-result-2
invariant_of-result-2 c =
    let a = c.args in
    record { passes = tree_passes a.order a.tiles a.slots.now (sym (c.in_ok-check_words.ensures ∙ c.in_ok-check_head.ensures.rest refl)) }
