-- Checks 1 and 2 decide, or the words of the head do.
use Rattle.std.proofs.Common.{◌≡◌, ◌≤◌, ℕ, min, length, take, sym, ◌∙◌}
use native.Mathlib.Omega.{arith}
use Rattle.std.proofs.lemmas.List.{take-take, take_min, length-take-le}
use Rattle.std.proofs.lemmas.Result.{err_from_is_err_and}
use Rattle.list_check.proofs.PassLaws.{going_start, going_same}
use Rattle.list_check.proofs.HeadLaws.{begun_refused, begun_words}
use Rattle.list_check.proofs.check_head.Goals as goal

pub returns-in_err-words : goal.returns-in_err-words
returns-in_err-words c =
    let a = c.args in
    let p = err_from_is_err_and c.from_residual.result c.from_residual.ensures.1 in
    rw (p.1, p.2) (begun_refused a.order a.tiles a.slots.now _ c.in_err-words.ensures)

pub returns : goal.returns
returns c =
    let a = c.args in
    let f = c.in_ok-words.ensures in
    let ws = take a.tiles a.slots.now in
    let l = length-take-le a.tiles a.slots.now f.1 in
    let h : ℕ = min 8 (length ws) in
    let b : (h ≤ a.tiles) × (a.tiles ≤ 8 → h ≡ a.tiles) × (8 ≤ a.tiles → h ≡ 8) =
    (omega (arith, l), λ k. omega (arith, l, k), λ k. omega (arith, l, k)) in
    let e = sym (take_min 8 ws) ∙ take-take h a.tiles a.slots.now b.0 in
    begun_words a.order a.tiles a.slots.now f.0 f.1 h b _ (c.exact.ensures _ (going_same (rw f.2 e) (going_start a.order (take h a.slots.now) c.start.ensures)))
