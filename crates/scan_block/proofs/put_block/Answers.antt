-- The loop keeps `Putting`: the block is put up to z, whose account is number `at`.
use Rattle.scan_block.proofs.Putting.{putting_start, putting_room, putting_next, putting_quad, putting_done, square_place}
use Rattle.quadtree.proofs.Alignment.{area_mono, area_pos}
use Rattle.morton.specs.Morton.{morton, side_bits}
use Rattle.tile.specs.Tile.{highest_order}
use Rattle.std.proofs.Common.{◌∙◌, refl, ap, ℕ, ◌-◌, ◌^◌, ◌≤◌, arith}
use Rattle.scan_block.proofs.put_block.Goals as goal

pub returns : goal.returns
returns c =
    let number = c.number-corner in
    let seek = c.seek-moved in
    let w = c.loop-z.invariant in
    rw (← number.ensures, w.back) (putting_done w.putting _ _ _ _ (omega (arith, c.area.ensures)) seek.ensures seek.auto.slots)

pub loop-z-init : goal.loop-z-init
loop-z-init c =
    let a = c.args in
    let p = c.requires.block_fits in
    let e = c.number-corner.ensures in
    record {
      upto = omega arith;
      at = λ h. ap (λ (x : ℕ). x - a.feed.start) (rw (← e) at (square_place a.feed.order a.point.column a.point.row p.order p.column p.row));
      back = refl;
      putting = putting_start _ _ _ _ _ _ _ a.size c.seek-moved.ensures.fits p.some (rw (← e) at p.aligned);
    }

pub loop-z-preserved : goal.loop-z-preserved
loop-z-preserved c =
    let put = c.put_quad-moved in
    let a = c.args in
    let p = c.requires.block_fits in
    let l = c.loop-z in
    let w = l.invariant in
    let e = c.number-corner.ensures in
    let room = putting_room w.putting a.size p.some (rw (← e) at p.aligned) (omega (arith, c.area.ensures)) in
    let q = putting_next w.putting p e c.area.result l.at c.side-width.result c.area.ensures (omega arith) (w.at (omega arith)) c.side-width.ensures in
    record {
      upto = omega (arith, c.area.ensures);
      at = c.index_at-at.ensures;
      back = put.ensures.back ∙ w.back;
      putting = putting_quad w.putting _ _ l.at c.side-width.result q put.auto.slots (rw w.back at put.ensures.put);
    }

pub overflow_add-end : goal.overflow_add-end
overflow_add-end c =
    let p = c.requires.block_fits in
    let big : 4 ^ c.args.feed.order ≤ 4 ^ highest_order = area_mono p.order in
    omega (arith, c.area.ensures, c.number-corner.ensures, p.inside)

pub overflow_sub-at : goal.overflow_sub-at
overflow_sub-at c =
    let a = c.args in
    let p = c.requires.block_fits in
    omega (arith, square_place a.feed.order a.point.column a.point.row p.order p.column p.row, (p.legible (morton side_bits a.point.column a.point.row) (omega arith) (omega (arith, area_pos a.size))).0)

pub put_quad-moved-requires-clause-z_bound : goal.put_quad-moved-requires-clause-z_bound
put_quad-moved-requires-clause-z_bound c =
    let a = c.args in
    let p = c.requires.block_fits in
    let w = c.loop-z.invariant.putting in
    let e = c.number-corner.ensures in
    let big : 4 ^ a.feed.order ≤ 4 ^ highest_order = area_mono p.order in
    let room = putting_room w a.size p.some (rw (← e) at p.aligned) (omega (arith, c.area.ensures)) in
    (omega (arith, p.inside), w.quad)

pub put_quad-moved-requires-clause-accounts : goal.put_quad-moved-requires-clause-accounts
put_quad-moved-requires-clause-accounts c =
    let l = c.loop-z in
    let w = l.invariant in
    let q = putting_next w.putting c.requires.block_fits c.number-corner.ensures c.area.result l.at c.side-width.result c.area.ensures (omega arith) (w.at (omega arith)) c.side-width.ensures in
    (q.first, q.second, q.third, q.fourth)

pub overflow_add-z : goal.overflow_add-z
overflow_add-z c =
    let a = c.args in
    let p = c.requires.block_fits in
    let big : 4 ^ a.feed.order ≤ 4 ^ highest_order = area_mono p.order in
    let room = putting_room c.loop-z.invariant.putting a.size p.some (rw (← c.number-corner.ensures) at p.aligned) (omega (arith, c.area.ensures)) in
    omega (arith, p.inside)

pub bounds-accounts-at-in-loop-z : goal.bounds-accounts-at-in-loop-z
bounds-accounts-at-in-loop-z c =
    let l = c.loop-z in
    let w = l.invariant in
    omega (arith, (putting_next w.putting c.requires.block_fits c.number-corner.ensures c.area.result l.at c.side-width.result c.area.ensures (omega arith) (w.at (omega arith)) c.side-width.ensures).index)

pub bounds-accounts-at-in-loop-z-2 : goal.bounds-accounts-at-in-loop-z-2
bounds-accounts-at-in-loop-z-2 c =
    let l = c.loop-z in
    let w = l.invariant in
    omega (arith, (putting_next w.putting c.requires.block_fits c.number-corner.ensures c.area.result l.at c.side-width.result c.area.ensures (omega arith) (w.at (omega arith)) c.side-width.ensures).index)

pub bounds-accounts-at-in-loop-z-3 : goal.bounds-accounts-at-in-loop-z-3
bounds-accounts-at-in-loop-z-3 c =
    let l = c.loop-z in
    let w = l.invariant in
    omega (arith, (putting_next w.putting c.requires.block_fits c.number-corner.ensures c.area.result l.at c.side-width.result c.area.ensures (omega arith) (w.at (omega arith)) c.side-width.ensures).index)
