-- The code's checks are the definition's, in its order; behind the words the list is valid and the roster section is what is left of the file.
use mathlib.Core.Path.{◌≡◌, sym}
use mathlib.Core.Bool.{false}
use Prim.Native.Nat.{ℕ, ◌≤◌}
use native.Mathlib.Omega.{arith}
use lib.Dec.{eqb}
use borrow.Author.Tests.{true-eqb, false-eqb}
use Rattle.std.proofs.Common.{rules}
use Rattle.std.proofs.lemmas.Result.{err_from_is_err_and}
use Rattle.mapfile_read.proofs.ReaderLaws.{tiles_check_valid}
use Rattle.mapfile_read.proofs.Examining.{no_order, high_order, no_count, few_slots, words_refused, roster_asked}
use Rattle.mapfile_read.proofs.examine.Goals as goal

length_some : (n : ℕ) → false ≡ eqb n 0 → 1 ≤ n
length_some n e = let h = false-eqb n 0 e in omega (arith, h)

pub returns-then-is_empty-clause-number : goal.returns-then-is_empty-clause-number
returns-then-is_empty-clause-number c = no_order _ _ (omega (arith, true-eqb _ _ c.if-is_empty.ensures))

pub returns-then-order-gt-HIGHEST_ORDER-clause-number : goal.returns-then-order-gt-HIGHEST_ORDER-clause-number
returns-then-order-gt-HIGHEST_ORDER-clause-number c = high_order _ _ (omega (arith, length_some _ c.if-is_empty.ensures)) (omega (arith, c.from-order.ensures))

pub returns-then-file-lt-WORDS_PLACE-clause-number : goal.returns-then-file-lt-WORDS_PLACE-clause-number
returns-then-file-lt-WORDS_PLACE-clause-number c = no_count _ _ (omega (arith, length_some _ c.if-is_empty.ensures)) (omega (arith, c.from-order.ensures)) (omega arith)

pub returns-then-slots-count-clause-number : goal.returns-then-slots-count-clause-number
returns-then-slots-count-clause-number c = few_slots _ _ (omega arith) (omega (arith, c.from-order.ensures)) (omega (arith, c.word_at-count.ensures))

pub returns-in_err-tiles-clause-number : goal.returns-in_err-tiles-clause-number
returns-in_err-tiles-clause-number c =
    let p = err_from_is_err_and c.from_residual.result c.from_residual.ensures.1 in
    rw (p.1, p.2) (words_refused _ _ (search rules) _ c.in_err-tiles.ensures.number)

pub returns-in_err-check-clause-number : goal.returns-in_err-check-clause-number
returns-in_err-check-clause-number c =
    let p = err_from_is_err_and c.from_residual-in_err-check.result c.from_residual-in_err-check.ensures.1 in
    rw (p.1, p.2) (roster_asked _ _ (search rules) c.in_ok-tiles.ensures.number _ c.in_ok-tiles.ensures.words _ c.in_err-check.ensures)

pub returns-clause-number : goal.returns-clause-number
returns-clause-number c = roster_asked _ _ (search rules) c.in_ok-tiles.ensures.number _ c.in_ok-tiles.ensures.words _ c.in_ok-check.ensures

pub slice_bounds-check-count : goal.slice_bounds-check-count
slice_bounds-check-count c = omega (arith, (tiles_check_valid _ (omega arith) _ _ (omega arith) (sym c.in_ok-tiles.ensures.number)).0)

pub slice_bounds-check-start : goal.slice_bounds-check-start
slice_bounds-check-start c = omega (arith, (tiles_check_valid _ (omega arith) _ _ (omega arith) (sym c.in_ok-tiles.ensures.number)).0)
