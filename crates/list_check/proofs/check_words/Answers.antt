-- The head decides; or the pass goes on behind the words that are known to pass, of which the three in front of it tell enough.
use mathlib.Core.Path.{◌∙◌, sym, refl}
use mathlib.Core.List.{[]}
use native.Mathlib.Omega.{arith}
use lib.Seq.{take-length}
use Rattle.std.proofs.lemmas.Result.{err_from_is_err_and}
use Rattle.refusal.proofs.RefusedLaws.{number_some}
use Rattle.list_check.specs.ListCheck.{words_check}
use Rattle.list_check.proofs.FrontLaws.{going_behind}
use Rattle.list_check.proofs.PassLaws.{going_cut, going_same}
use Rattle.list_check.proofs.HeadLaws.{words_list}
use Rattle.list_check.proofs.check_words.Goals as goal

pub returns-in_err-check_unknown : goal.returns-in_err-check_unknown
returns-in_err-check_unknown c =
    let a = c.args in
    let p = err_from_is_err_and c.from_residual.result c.from_residual.ensures.1 in
    let h = number_some c.in_err-check_unknown.field-0.0 in
    rw (p.1, p.2) (c.in_err-check_unknown.ensures.refused (λ z. omega (arith, h, z)) ∙ sym (words_list a.order a.words.now c.requires.0))

pub returns-then-words-le-HEAD : goal.returns-then-words-le-HEAD
returns-then-words-le-HEAD c =
    let a = c.args in
    c.in_ok-check_unknown.ensures.whole refl (omega arith) ∙ sym (words_list a.order a.words.now c.requires.0)

pub returns : goal.returns
returns c =
    let a = c.args in
    let upto = c.flat_upto-i in
    let going = going_behind a.order a.words.now upto.result upto.ensures.1 upto.ensures.2 (c.of.ensures a.order upto.ensures.2) in
    c.exact.ensures (words_check a.order [] a.words.now) (going_same (take-length _) (going_cut a.order a.words.now _ upto.result going))

pub flat_upto-i-requires : goal.flat_upto-i-requires
flat_upto-i-requires c =
    let a = c.args in
    (c.requires.0, omega arith, rw (take-length a.words.now) at (c.in_ok-check_unknown.ensures.front refl (omega arith)))
