-- The tiles in turn: those ahead of the word are filled.
use mathlib.Core.Path.{◌≡◌}
use native.Mathlib.Omega.{arith}
use lib.ListN.{length, replicate}
use Rattle.std.proofs.Common.{rules}
use Rattle.list_check.proofs.TreeLaws.{tree_order, tree_valid}
use Rattle.decode.proofs.FillingLaws.{filling_start, filling_first, filling_next, filling_word, filling_end}
use Rattle.decode.proofs.fill.Goals as goal

pub loop-word-init : goal.loop-word-init
loop-word-init c =
    let e : c.fill.new.self ≡ replicate (length c.args.raster.now) 0 = search rules in
    filling_start _ (tree_valid _ _ c.args.map.passes) c.requires e

pub loop-word-preserved : goal.loop-word-preserved
loop-word-preserved c =
    let l = c.loop-word in
    filling_next (filling_word c.args.map.words.now l.word-index l.invariant c.loop-word-test.true) (rw c.from.ensures at c.paint.ensures)

pub returns : goal.returns
returns c = filling_end c.args.map.words.now c.loop-word.word-index c.loop-word.invariant (omega (arith, c.loop-word-test.false, c.loop-word.auto.word-index-end))

pub paint-requires : goal.paint-requires
paint-requires c =
    let l = c.loop-word in
    (tree_order _ _ c.args.map.passes, rw c.from.ensures (filling_first (filling_word c.args.map.words.now l.word-index l.invariant c.loop-word-test.true)), l.invariant.long)
