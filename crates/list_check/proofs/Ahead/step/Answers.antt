-- Checks 11 to 15 are `sound`'s, check 16 is `last_of_four`'s: each end of the code is a law of one word.
use Rattle.std.proofs.Common.{refl}
use Rattle.std.proofs.lemmas.Result.{err_from_is_err_and}
use Rattle.list_check.proofs.OneWord.{step_bad, step_sound, step_last, step_good}
use Rattle.list_check.proofs.Ahead.step.Goals as goal

pub returns-in_err-sound : goal.returns-in_err-sound
returns-in_err-sound c = λ seen e.
    let p = err_from_is_err_and c.from_residual.result c.from_residual.ensures.1 in
    let a = c.args in
    rw (p.1, p.2) (step_bad a.order seen a.word _ e _ c.in_err-sound.ensures c.in_err-sound.field-0.0 refl)

pub returns-then-last_of_four : goal.returns-then-last_of_four
returns-then-last_of_four c = λ seen e.
    let a = c.args in
    let sound = c.in_ok-sound.ensures in
    step_last a.order seen a.word _ e _ sound refl _ (c.last_of_four.ensures a.order seen e (step_sound a.order seen a.word _ e _ sound refl)) c.if-last_of_four.true

pub returns : goal.returns
returns c = λ seen e.
    let a = c.args in
    let sound = c.in_ok-sound.ensures in
    step_good a.order seen a.word _ e _ sound refl _ (c.last_of_four.ensures a.order seen e (step_sound a.order seen a.word _ e _ sound refl)) c.if-last_of_four.false _ c.stop.ensures
