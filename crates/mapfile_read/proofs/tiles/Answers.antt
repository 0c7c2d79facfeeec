-- The loop keeps `Going`: what is ahead is known, with its pixels, and the words from the next on decide.
use mathlib.Core.Path.{◌≡◌, sym}
use native.Mathlib.Omega.{arith}
use lib.Seq.{length-take-le}
use Rattle.std.proofs.lemmas.Result.{err_from_is_err_and}
use Rattle.tile.proofs.TileLaws.{tile_of_size}
use Rattle.mapfile_roster.proofs.CoveredLaws.{covered_fits}
use Rattle.mapfile_read.proofs.ReaderLaws.{tiles_check_valid}
use Rattle.mapfile_read.proofs.WordsInTurn.{whole_room, whole_short, whole_listed, whole_word, going_start, going_end, going_all, going_short, going_on, going_fits, going_stop}
use Rattle.mapfile_read.proofs.tiles.Goals as goal

pub loop-word-init : goal.loop-word-init
loop-word-init c = going_start _ _ _ c.start-ahead.ensures

pub loop-word-preserved : goal.loop-word-preserved
loop-word-preserved c =
    let l = c.loop-word in
    let file = c.args.file.now in
    let ws = c.words-whole.result.now in
    let k = length-take-le c.min.result ws (omega arith) in
    let g = l.invariant in
    let e = whole_word file c.requires.head ws c.words-whole.ensures c.min.result l.word-index _ (omega arith) (omega arith) c.number-word.ensures in
    going_on _ _ _ l.word-index _ g (omega arith) (whole_room file c.requires.head ws c.words-whole.ensures l.word-index (omega arith)) _ e (c.in_ok-ahead.ensures g.seen g.knows) _ _ c.size.ensures c.area-area.ensures

pub returns-in_err-ahead-clause-number : goal.returns-in_err-ahead-clause-number
returns-in_err-ahead-clause-number c =
    let l = c.loop-word in
    let file = c.args.file.now in
    let ws = c.words-whole.result.now in
    let k = length-take-le c.min.result ws (omega arith) in
    let g = l.invariant in
    let e = whole_word file c.requires.head ws c.words-whole.ensures c.min.result l.word-index _ (omega arith) (omega arith) c.number-word.ensures in
    let p = err_from_is_err_and c.from_residual.result c.from_residual.ensures.1 in
    rw (p.1, p.2) (going_stop _ _ _ l.word-index _ g (omega arith) (whole_room file c.requires.head ws c.words-whole.ensures l.word-index (omega arith)) _ e _ (c.in_err-ahead.ensures g.seen g.knows))

pub returns-then-whole-count-clause-number : goal.returns-then-whole-count-clause-number
returns-then-whole-count-clause-number c =
    let l = c.loop-word in
    let k = length-take-le c.min.result c.words-whole.result.now (omega arith) in
    going_short _ _ _ l.word-index _ l.invariant (omega arith) (omega (arith, whole_short c.args.file.now c.requires.head c.words-whole.result.now c.words-whole.ensures))

pub returns-clause-number : goal.returns-clause-number
returns-clause-number c =
    let l = c.loop-word in
    let k = length-take-le c.min.result c.words-whole.result.now (omega arith) in
    going_end _ _ _ l.word-index _ l.invariant (omega arith)

pub returns-clause-words : goal.returns-clause-words
returns-clause-words c =
    let m : c.min.result ≡ c.args.count = omega arith in
    rw (← m) (whole_listed c.args.file.now c.requires.head c.words-whole.result.now c.words-whole.ensures c.min.result (omega arith))

pub invariant_of-result : goal.invariant_of-result
invariant_of-result c =
    let l = c.loop-word in
    let k = length-take-le c.min.result c.words-whole.result.now (omega arith) in
    let m : c.min.result ≡ c.args.count = omega arith in
    let w = whole_listed c.args.file.now c.requires.head c.words-whole.result.now c.words-whole.ensures c.min.result (omega arith) in
    let v = tiles_check_valid c.args.order c.requires.low c.args.count c.args.file.now c.requires.head (sym (going_end _ _ _ l.word-index _ l.invariant (omega arith))) in
    record {
      fits = λ a. rw (w, m) (omega (arith, covered_fits a c.requires.low v.1));
      sums = rw (w, m) (going_all _ _ _ l.word-index _ l.invariant (omega arith));
    }

pub area-area-requires : goal.area-area-requires
area-area-requires c = omega (arith, c.size.ensures, tile_of_size c.number-word.result)

pub overflow_add-area : goal.overflow_add-area
overflow_add-area c =
    let l = c.loop-word in
    let file = c.args.file.now in
    let ws = c.words-whole.result.now in
    let k = length-take-le c.min.result ws (omega arith) in
    let g = l.invariant in
    let e = whole_word file c.requires.head ws c.words-whole.ensures c.min.result l.word-index _ (omega arith) (omega arith) c.number-word.ensures in
    omega (arith, going_fits _ _ _ l.word-index _ g (omega arith) (whole_room file c.requires.head ws c.words-whole.ensures l.word-index (omega arith)) _ e (c.in_ok-ahead.ensures g.seen g.knows) _ _ c.size.ensures c.area-area.ensures c.requires.low)
