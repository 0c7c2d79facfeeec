-- Block by block: what is left to write makes the slots that are promised.
use mathlib.Core.Path.{◌≡◌, refl}
use native.Mathlib.Omega.{arith}
use Rattle.tile.specs.Tile.{highest_order}
use Rattle.quadtree.proofs.Alignment.{area_pos}
use Rattle.quadtree.proofs.Cuts.{cut_nobody}
use Rattle.list_cut.proofs.Turns.{greedy_size, put_start, put_room, put_more, put_all}
use Rattle.list_cut.proofs.put_cut.Goals as goal

pub loop-corner-init : goal.loop-corner-init
loop-corner-init c = put_start _ _ _ _ _ c.requires.0

pub loop-corner-preserved : goal.loop-corner-preserved
loop-corner-preserved c =
    let loop = c.loop-corner in
    let loop-test = c.loop-corner-test in
    let pre = c.requires in
    rw (c.word.ensures, c.area-corner.ensures) (put_more loop.invariant (omega arith) loop-test.true pre.1 c.largest-size.ensures)

pub returns-then-account-eq0 : goal.returns-then-account-eq0
returns-then-account-eq0 c =
    let a = c.args in
    let e : a.account ≡ 0 = omega arith in
    rw (e, cut_nobody highest_order a.stretch.start a.stretch.end) (omega arith, refl)

pub returns : goal.returns
returns c = put_all c.loop-corner.invariant c.loop-corner-test.false

pub loop-corner-smaller : goal.loop-corner-smaller
loop-corner-smaller c = let largest = c.largest-size in omega (arith, c.area-corner.ensures, largest.ensures.fits, area_pos largest.result)

pub shape_of-slots : goal.shape_of-slots
shape_of-slots c = c.loop-corner.invariant.long

pub bounds-slots-top : goal.bounds-slots-top
bounds-slots-top c =
    let pre = c.requires in
    put_room c.loop-corner.invariant (omega arith) c.loop-corner-test.true pre.1 c.largest-size.ensures pre.3

pub word-requires : goal.word-requires
word-requires c = let pre = c.requires in (omega (arith, pre.1), greedy_size pre.1 c.largest-size.ensures, pre.2)

pub area-corner-requires : goal.area-corner-requires
area-corner-requires c = omega (arith, greedy_size c.requires.1 c.largest-size.ensures)

pub overflow_add-corner : goal.overflow_add-corner
overflow_add-corner c = omega (arith, c.largest-size.ensures.fits, c.area-corner.ensures, c.requires.1)
