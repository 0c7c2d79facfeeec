-- The loop keeps `Laying`: the band is put up to a column.
use Rattle.scan_block.proofs.Putting.{side_least}
use Rattle.scan_band.proofs.Laying.{laying_start, laying_block, laying_legible, laying_more, laying_done}
use Rattle.tile.specs.Tile.{highest_order}
use lib.Pow.{pow_pos}
use mathlib.Core.Path.{refl}
use Prim.Native.Nat.{◌^◌, ◌≤◌}
use native.Mathlib.Omega.{arith}
use Rattle.scan_band.proofs.put_band.Goals as goal

pub returns : goal.returns
returns c =
    let pre = c.requires in
    let span = c.side-width in
    laying_done pre.band_fits c.loop-column.invariant (omega (arith, span.ensures))

pub loop-column-init : goal.loop-column-init
loop-column-init c = laying_start _ _ _ _ _ _ _ _ c.requires.fits

pub loop-column-preserved : goal.loop-column-preserved
loop-column-preserved c =
    let pre = c.requires in
    let span = c.side-width in
    let span2 = c.side-step in
    let loop = c.loop-column in
    let put-block = c.put_block-moved in
    rw (← span2.ensures) at (laying_more pre.band_fits loop.invariant (omega (arith, span.ensures)) _ refl _ put-block.result put-block.auto.slots put-block.ensures)

pub put_block-moved-requires : goal.put_block-moved-requires
put_block-moved-requires c =
    let pre = c.requires in
    let args = c.args in
    let span = c.side-width in
    let p = pre.band_fits in
    let l = c.loop-column in
    let block = laying_block p l.invariant (omega (arith, span.ensures)) _ refl in record {
      fits = l.invariant.fits;
      block_fits = record {
        order = p.order;
        some = p.some;
        size = p.size;
        column = omega (arith, span.ensures);
        row = omega (arith, p.rows, pow_pos args.size);
        aligned = block.aligned;
        inside = block.inside;
        legible = laying_legible p l.invariant (omega (arith, span.ensures)) _ refl;
      };
    }

pub overflow_add-column : goal.overflow_add-column
overflow_add-column c =
    let args = c.args in
    let pre = c.requires in
    let span = c.side-width in
    let span2 = c.side-step in
    let a : 2 ^ args.feed.order ≤ 2 ^ highest_order = side_least pre.band_fits.order in
    let b : 2 ^ args.size ≤ 2 ^ args.feed.order = side_least pre.band_fits.size in
    omega (arith, span.ensures, span2.ensures)

pub loop-column-smaller : goal.loop-column-smaller
loop-column-smaller c =
    let args = c.args in
    let span2 = c.side-step in
    omega (arith, span2.ensures, pow_pos args.size)
