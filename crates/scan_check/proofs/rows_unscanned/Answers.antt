-- The loop keeps that what is looked at, in `bad`, and the words from here on decide.
use mathlib.Core.Path.{◌≡◌, ◌∙◌, refl, sym}
use Prim.Native.Nat.{◌-◌}
use native.Mathlib.Omega.{arith}
use lib.ListN.{get_or}
use lib.Pow.{pow_pos}
use Rattle.tile.specs.Tile.{tile_of, stop}
use Rattle.quadtree.proofs.Alignment.{area_pos}
use Rattle.quadtree.proofs.Chains.{quadrant_stop}
use Rattle.list_check.proofs.TreeLaws.{tree_order, tree_valid}
use Rattle.scan_check.proofs.Unscanned.{word_quadrant}
use Rattle.scan_check.proofs.ByRows.{stands, rows_on, rows_end}
use Rattle.scan_check.proofs.rows_unscanned.Goals as goal

pub loop-word-init : goal.loop-word-init
loop-word-init c = λ t. refl

pub loop-word-preserved : goal.loop-word-preserved
loop-word-preserved c = λ t.
    let a = c.args in
    let ws = a.tree.words.now in
    let l = c.loop-word in
    let v = tree_valid _ _ a.tree.passes in
    let q = word_quadrant ws l.word-index c.loop-word-test.true v in
    let st = stands a.tree.order a.pixels _ _ _ (tree_order _ _ a.tree.passes) c.requires c.side.ensures c.spread-row.ensures c.spread-column.ensures in
    let z : c.stop.result - 1 ≡ stop (tile_of (get_or ws l.word-index 0)) - 1 = omega (arith, c.stop.ensures) in
    let e = c.behind-bad.ensures a.tree.order a.pixels st (omega (arith, c.stop.ensures, quadrant_stop q, area_pos (tile_of (get_or ws l.word-index 0)).size)) in
    l.invariant t ∙ rows_on a.tree.order a.pixels t ws l.bad l.word-index v c.loop-word-test.true _ (rw z at e)

pub returns : goal.returns
returns c = λ t.
    let a = c.args in
    let l = c.loop-word in
    sym (l.invariant t ∙ rows_end a.tree.order a.pixels t a.tree.words.now l.bad l.word-index (omega (arith, c.loop-word-test.false, l.auto.word-index-end)))

pub overflow_shr-pixels : goal.overflow_shr-pixels
overflow_shr-pixels c = omega (arith, tree_order _ _ c.args.tree.passes)

pub side-requires : goal.side-requires
side-requires c = omega (arith, tree_order _ _ c.args.tree.passes)

pub nonzero_rem-pixels : goal.nonzero_rem-pixels
nonzero_rem-pixels c = omega (arith, c.side.ensures, pow_pos c.args.tree.order)

pub overflow_sub-stop : goal.overflow_sub-stop
overflow_sub-stop c = omega (arith, c.stop.ensures, area_pos (tile_of (get_or c.args.tree.words.now c.loop-word.word-index 0)).size)
