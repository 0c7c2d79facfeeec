-- While the three siblings stand beside the tile, its parent takes their place.
use mathlib.Core.Path.{refl}
use native.Mathlib.Omega.{arith}
use lib.ListN.{length-map}
use Rattle.tile.specs.Tile.{tile_of}
use Rattle.claim_merge.proofs.MergeTurns.{stands_turn, stands_block, stands_up, stands_merges}
use Rattle.claim_merge.proofs.merge.Goals as goal

pub loop-corner-init : goal.loop-corner-init
loop-corner-init c = (refl, c.requires.1)

pub loop-corner-preserved : goal.loop-corner-preserved
loop-corner-preserved c =
    let i = c.loop-corner.invariant in
    (i.0, stands_up i.1 i.0 c.beside.ensures c.loop-corner-test.true _ _ c.quadrant-place.ensures c.area.ensures)

pub returns : goal.returns
returns c = let i = c.loop-corner.invariant in (i.0, stands_merges i.1 i.0 c.beside.ensures c.loop-corner-test.false)

pub beside-requires : goal.beside-requires
beside-requires c =
    let i = c.loop-corner.invariant.1 in
    let b = stands_block i c.requires.0 in
    let l = length-map c.args.list.now tile_of in
    (omega (arith, i.order, i.within), omega (arith, i.within), b)

pub quadrant-place-requires : goal.quadrant-place-requires
quadrant-place-requires c = (stands_block c.loop-corner.invariant.1 c.requires.0).size

pub area-requires : goal.area-requires
area-requires c = omega (arith, (stands_block c.loop-corner.invariant.1 c.requires.0).size)

pub overflow_mul-parent : goal.overflow_mul-parent
overflow_mul-parent c = let i = c.loop-corner.invariant in omega (arith, stands_turn i.1 i.0 c.beside.ensures c.loop-corner-test.true _ _ c.quadrant-place.ensures c.area.ensures c.requires.0)

pub overflow_add-parent : goal.overflow_add-parent
overflow_add-parent c = let i = c.loop-corner.invariant in omega (arith, stands_turn i.1 i.0 c.beside.ensures c.loop-corner-test.true _ _ c.quadrant-place.ensures c.area.ensures c.requires.0)

pub overflow_sub-merged : goal.overflow_sub-merged
overflow_sub-merged c = let i = c.loop-corner.invariant in omega (arith, stands_turn i.1 i.0 c.beside.ensures c.loop-corner-test.true _ _ c.quadrant-place.ensures c.area.ensures c.requires.0)

pub loop-corner-smaller : goal.loop-corner-smaller
loop-corner-smaller c = let i = c.loop-corner.invariant in omega (arith, stands_turn i.1 i.0 c.beside.ensures c.loop-corner-test.true _ _ c.quadrant-place.ensures c.area.ensures c.requires.0, length-map c.args.list.now tile_of)
