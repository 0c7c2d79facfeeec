-- Block by block: the rest of the stretch makes the count.
use mathlib.Core.Path.{◌≡◌}
use native.Mathlib.Omega.{arith}
use Rattle.tile.specs.Tile.{highest_order}
use Rattle.quadtree.proofs.Alignment.{area_pos}
use Rattle.quadtree.proofs.Cuts.{cut_nobody}
use Rattle.list_cut.proofs.Turns.{count_start, count_more, count_all, greedy_size}
use Rattle.list_cut.proofs.count_cut.Goals as goal

pub loop-corner-init : goal.loop-corner-init
loop-corner-init c = count_start _ _ _ c.requires.0

pub loop-corner-preserved : goal.loop-corner-preserved
loop-corner-preserved c =
    let loop = c.loop-corner in
    let pre = c.requires in
    rw c.area-corner.ensures (count_more loop.invariant (omega arith) c.loop-corner-test.true pre.1 c.largest.ensures)

pub returns-then-account-eq0 : goal.returns-then-account-eq0
returns-then-account-eq0 c =
    let a = c.args in
    let e : a.account ≡ 0 = omega arith in
    rw (e, cut_nobody highest_order a.stretch.start a.stretch.end)

pub returns : goal.returns
returns c = count_all c.loop-corner.invariant c.loop-corner-test.false

pub loop-corner-smaller : goal.loop-corner-smaller
loop-corner-smaller c = omega (arith, c.area-corner.ensures, c.largest.ensures.fits, area_pos c.largest.result)

pub area-corner-requires : goal.area-corner-requires
area-corner-requires c = omega (arith, greedy_size c.requires.1 c.largest.ensures)

pub overflow_add-corner : goal.overflow_add-corner
overflow_add-corner c = omega (arith, c.largest.ensures.fits, c.area-corner.ensures, c.requires)
