-- Checks 1 and 2 decide, or the words do.
use Rattle.std.proofs.Common.{sym, ◌∙◌}
use Rattle.std.proofs.lemmas.Result.{err_from_is_err_and}
use Rattle.list_check.proofs.HeadLaws.{words_given, words_list}
use Rattle.list_check.proofs.check.Goals as goal

pub returns-in_err-words-clause-number : goal.returns-in_err-words-clause-number
returns-in_err-words-clause-number c =
    let p = err_from_is_err_and c.from_residual.result c.from_residual.ensures.1 in
    rw (p.1, p.2) c.in_err-words.ensures

pub returns-in_err-check_words-clause-number : goal.returns-in_err-check_words-clause-number
returns-in_err-check_words-clause-number c =
    let a = c.args in
    let f = c.in_ok-words.ensures in
    let r = c.from_residual-in_err-check_words in
    let p = err_from_is_err_and r.result r.ensures.1 in
    rw (p.1, p.2) (c.in_err-check_words.ensures ∙ words_given _ _ _ f.0 f.1 f.2)

pub returns-clause-number : goal.returns-clause-number
returns-clause-number c =
    let f = c.in_ok-words.ensures in
    c.in_ok-check_words.ensures ∙ words_given _ _ _ f.0 f.1 f.2

pub invariant_of-result : goal.invariant_of-result
invariant_of-result c =
    let f = c.in_ok-words.ensures in
    record { passes = sym (c.in_ok-check_words.ensures ∙ words_list c.args.order c.in_ok-words.words.now f.0) }
