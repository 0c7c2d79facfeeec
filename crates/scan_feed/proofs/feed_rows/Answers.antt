-- A band that suits is fed at once; else pixels go one by one.
use Rattle.scan_feed.proofs.FeedBands.{band_within, fed_band}
use Rattle.quadtree.proofs.Alignment.{area_mono}
use Rattle.tile.specs.Tile.{highest_order}
use Rattle.std.proofs.Common.{◌^◌, ◌≤◌, arith}
use Rattle.scan_feed.proofs.feed_rows.Goals as goal

pub returns-then-size-gt0-clause-fed_on : goal.returns-then-size-gt0-clause-fed_on
returns-then-size-gt0-clause-fed_on c =
    let a = c.args in
    let p = c.requires in
    let size = c.band_size-size in
    fed_band a.feed.order a.feed.start a.feed.accounts.now a.at.taken a.at.pixels a.slots.now a.at.gap.front a.at.gap.back _ size.result p.fits p.taken_in_bounds.1 (size.ensures c.if-size-gt0.true) _ c.put_band-moved.result c.band_pixels-count.result c.band_pixels-count.ensures c.put_band-moved.ensures

pub overflow_add-result-then-size-gt0 : goal.overflow_add-result-then-size-gt0
overflow_add-result-then-size-gt0 c =
    let a = c.args in
    let p = c.requires in
    let size = c.band_size-size in
    let big : 4 ^ a.feed.order ≤ 4 ^ highest_order = area_mono p.order_le_highest_order.0 in
    omega (arith, c.band_pixels-count.ensures, band_within a.feed.order a.feed.start a.feed.accounts.now a.at.taken a.at.pixels a.slots.now a.at.gap.front a.at.gap.back _ size.result p.fits p.taken_in_bounds.1 (size.ensures c.if-size-gt0.true))
