-- A stretch that suits is fed at once; else pixels go one by one.
use Rattle.scan_feed.proofs.FeedLines.{fed_line}
use Rattle.quadtree.proofs.Alignment.{area_mono}
use Rattle.tile.specs.Tile.{highest_order}
use Rattle.std.proofs.Common.{refl, ◌^◌, ◌≤◌, arith}
use Rattle.scan_feed.proofs.feed_morton.Goals as goal

pub returns-then-count-gt0-clause-fed_on : goal.returns-then-count-gt0-clause-fed_on
returns-then-count-gt0-clause-fed_on c =
    let a = c.args in
    let p = c.requires in
    let put = c.put_stretch-moved in
    let some = c.if-count-gt0.true in
    rw put.ensures.back (fed_line a.feed.order a.feed.accounts.now a.at.taken a.at.pixels a.slots.now a.at.gap.front a.at.gap.back c.stretch_size-count.result p.fits.0 p.fits.1 some (c.stretch_size-count.ensures some) _ put.result.front _ refl put.ensures.put put.auto.slots)

pub put_stretch-moved-requires-clause-count_bound : goal.put_stretch-moved-requires-clause-count_bound
put_stretch-moved-requires-clause-count_bound c =
    let line = c.stretch_size-count.ensures c.if-count-gt0.true in
    let big : 4 ^ c.args.feed.order ≤ 4 ^ highest_order = area_mono c.requires.order_le_highest_order.0 in
    (omega (arith, line.places), line.aligned, line.quads)

pub overflow_cast-result : goal.overflow_cast-result
overflow_cast-result c =
    let big : 4 ^ c.args.feed.order ≤ 4 ^ highest_order = area_mono c.requires.order_le_highest_order.0 in
    omega (arith, (c.stretch_size-count.ensures c.if-count-gt0.true).places)

pub overflow_add-result-then-count-gt0 : goal.overflow_add-result-then-count-gt0
overflow_add-result-then-count-gt0 c =
    let big : 4 ^ c.args.feed.order ≤ 4 ^ highest_order = area_mono c.requires.order_le_highest_order.0 in
    omega (arith, (c.stretch_size-count.ensures c.if-count-gt0.true).places)
