-- The three tests of 32.
use Prim.Native.Nat.{◌^◌, ◌≤◌}
use native.Mathlib.Omega.{arith}
use borrow.Author.Tests.{lt-leb, le-leb, le-ltb}
use Rattle.refusal.specs.Checks.{must}
use Rattle.quadtree.specs.Raster.{aligned}
use Rattle.quadtree.proofs.Alignment.{area_pos}
use Rattle.bed.specs.Bed.{block_in}
use Rattle.checks.specs.Asked.{block_check}
use Rattle.checks.proofs.AskedLaws.{block_unaligned, block_inside}
use Rattle.checks.proofs.block.Goals as goal

pub returns-then-order-size : goal.returns-then-order-size
unfolding block_check block_in aligned must
returns-then-order-size c = simp (lt-leb _ _ c.if-order-size.true)

pub returns-then-area-corner : goal.returns-then-area-corner
unfolding block_check block_in aligned must
returns-then-area-corner c =
    let a = c.args in
    let h : 4 ^ a.order ≤ a.block.corner = omega (arith, c.area.ensures) in
    simp (le-leb _ _ c.if-order-size.false, le-ltb _ _ h)

pub returns-then-corner-area-ne0 : goal.returns-then-corner-area-ne0
returns-then-corner-area-ne0 c =
    let a = c.args in
    let area = c.area in
    block_unaligned a.order a.block.corner a.block.size c.area-2.result c.area-2.ensures (omega arith) (omega (
      arith,
      area.ensures,
    )) c.if-corner-area-ne0.true

pub returns : goal.returns
returns c =
    let a = c.args in
    let area = c.area in
    block_inside a.order a.block.corner a.block.size c.area-2.result c.area-2.ensures (omega arith) (omega (arith, area.ensures))
    c.if-corner-area-ne0.false

pub nonzero_rem-corner : goal.nonzero_rem-corner
nonzero_rem-corner c = omega (arith, c.area-2.ensures, area_pos c.args.block.size)
