-- The loop keeps `Going`: what is ahead is known, and the words from the next one on decide. The iterator gives the
-- first `most` words.
use Rattle.std.proofs.Common.{sym, ◌∙◌, length, take}
use Rattle.std.proofs.lemmas.Iterator.{YieldsList-from_slice, YieldsList-from_take}
use Rattle.std.proofs.lemmas.Iterator.Consumers.{YieldsList-turn, YieldsList-end}
use Rattle.std.proofs.lemmas.List.{length_push, get_or_default}
use Rattle.std.proofs.lemmas.Result.{err_from_is_err_and}
use Rattle.list_check.proofs.PassLaws.{going_end, going_on, going_stop}
use Rattle.list_check.proofs.exact.Goals as goal

pub loop-word-init : goal.loop-word-init
loop-word-init c = λ x start. start

pub loop-word-preserved : goal.loop-word-preserved
loop-word-preserved c = λ x start.
    let a = c.args in
    let l = c.loop-word in
    let w = c.in-Some.word.now in
    let gives = YieldsList-from_take a.most (YieldsList-from_slice a.words.now cc) cc in
    let t = YieldsList-turn gives l.yielded _ l.yielded_by _ _ c.in-Some.word c.in-Some.is c.next.ensures.steps in
    let word = get_or_default (take a.most a.words.now) (length l.yielded) 0 w t.0 ∙ sym t.1 in
    let g = l.invariant x start in
    rw (length_push l.yielded c.in-Some.word)
    (going_on _ _ x _ t.0 g w word (c.in_ok-ahead.ensures g.seen g.knows))

pub returns-in_err-ahead : goal.returns-in_err-ahead
returns-in_err-ahead c = λ x start.
    let a = c.args in
    let l = c.loop-word in
    let w = c.in-Some.word.now in
    let gives = YieldsList-from_take a.most (YieldsList-from_slice a.words.now cc) cc in
    let t = YieldsList-turn gives l.yielded _ l.yielded_by _ _ c.in-Some.word c.in-Some.is c.next.ensures.steps in
    let word = get_or_default (take a.most a.words.now) (length l.yielded) 0 w t.0 ∙ sym t.1 in
    let p = err_from_is_err_and c.from_residual.result c.from_residual.ensures.1 in
    let g = l.invariant x start in
    rw (p.1, p.2) (going_stop _ _ x _ t.0 g w word _ (c.in_err-ahead.ensures g.seen g.knows))

pub returns : goal.returns
returns c = λ x start.
    let a = c.args in
    let l = c.loop-word in
    let gives = YieldsList-from_take a.most (YieldsList-from_slice a.words.now cc) cc in
    let t = YieldsList-end gives l.yielded _ l.yielded_by _ _ c.in-None.is c.next.ensures.steps in
    going_end _ _ x (length l.yielded) t.1 (l.invariant x start)
