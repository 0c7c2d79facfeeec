-- By kind: row and column of the place, or the place itself; and the levels of the pixel there.
use Rattle.scan_feed.proofs.NextPlace.{place_sides, place_rows, place_morton}
use Rattle.quadtree.proofs.Alignment.{area_mono}
use Rattle.tile.specs.Tile.{highest_order}
use Rattle.std.proofs.Common.{refl, ◌^◌, ◌≤◌, arith}
use Rattle.scan_feed.proofs.next_place.Goals as goal

pub returns-in-Rows : goal.returns-in-Rows
returns-in-Rows c =
    let a = c.args in
    let p = c.requires in
    place_rows a.order a.pixels p.0 p.1 _ _ c.in-Rows.is c.number.ensures c.row_levels.ensures

pub returns-in-Morton : goal.returns-in-Morton
returns-in-Morton c =
    let a = c.args in
    place_morton a.kind a.order a.pixels _ c.in-Morton.is refl c.levels_of.ensures

pub row_levels-requires : goal.row_levels-requires
row_levels-requires c =
    let a = c.args in
    let p = c.requires in
    place_sides a.order a.pixels p.0 p.1

pub overflow_add-pixels : goal.overflow_add-pixels
overflow_add-pixels c = (let big : 4 ^ c.args.order ≤ 4 ^ highest_order = area_mono c.requires.0 in omega arith)

pub levels_of-requires : goal.levels_of-requires
levels_of-requires c = (let big : 4 ^ c.args.order ≤ 4 ^ highest_order = area_mono c.requires.0 in (omega arith, omega arith))
