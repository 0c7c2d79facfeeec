-- The place of z in the list: the tile ahead of it covers z, or else stops where the stretch of nobody's starts.
use mathlib.Core.Path.{◌∙◌, ap}
use Prim.Native.Nat.{ℕ, ◌^◌, ◌≤◌, ◌<◌}
use native.Mathlib.Omega.{arith}
use Rattle.tile.specs.Tile.{tile}
use Rattle.tile.specs.Slots.{tiles}
use Rattle.quadtree.specs.Raster.{account_at}
use Rattle.quadtree.specs.Valid.{Valid}
use Rattle.quadtree.proofs.Alignment.{area_mono, size_le}
use Rattle.list_check.proofs.TreeLaws.{tree_order, tree_valid}
use Rattle.lookup.proofs.StretchLaws.{Stretch, place_tile, place_stretch, place_found, place_free}
use Rattle.lookup.proofs.block_at.Goals as goal
use Rattle.lookup.proofs.block_at.Goals.{After-cut-place, Then-z-from, After-stretch_upto-upto, After-largest_in}

valid : (c : After-cut-place) → Valid c.args.scan.order (tiles c.args.tree.words.now)
valid c = rw c.requires.0 at (tree_valid _ _ c.args.tree.passes)

-- a tile is ahead of the place
ahead : (c : Then-z-from) → Valid c.args.scan.order (tiles c.args.tree.words.now) → 0 < c.cut-place.result
ahead c v = (place_tile c.args.scan c.args.tree.words.now v c.requires.1 c.args.z _ c.cut-place.ensures (omega (arith, c.stretch_from-from.ensures, c.if-z-from.true))).0

-- the stretch that code found
stretch : (c : After-stretch_upto-upto) → Valid c.args.scan.order (tiles c.args.tree.words.now) →
    Stretch (account_at (tiles c.args.tree.words.now)) (4 ^ c.args.scan.order) c.stretch_from-from.result c.stretch_upto-upto.result c.args.z
stretch c v =
    let from = c.stretch_from-from.ensures in
    rw (from, c.stretch_upto-upto.ensures, c.requires.0) (place_stretch c.args.scan c.args.tree.words.now v c.requires.1 c.args.z _ c.cut-place.ensures c.requires.2 (omega (arith, from, c.if-z-from.false)))

-- it is a size of the bed
fits : (c : After-largest_in) → Stretch (account_at (tiles c.args.tree.words.now)) (4 ^ c.args.scan.order) c.stretch_from-from.result c.stretch_upto-upto.result c.args.z →
    c.largest_in.result ≤ c.args.scan.order
fits c w = size_le c.largest_in.result c.args.scan.order (omega (arith, w.run.room, c.largest_in.ensures.lies.1))

pub returns-then-z-from : goal.returns-then-z-from
returns-then-z-from c =
    let v = valid (goal.at.returns-then-z-from c).After-cut-place in
    c.from.ensures ∙ place_found c.args.scan c.args.tree.words.now v c.requires.1 c.args.z _ c.cut-place.ensures c.requires.2 c.requires.3 (omega (arith, c.stretch_from-from.ensures, c.if-z-from.true))

pub returns : goal.returns
returns c =
    let v = valid (goal.at.returns c).After-cut-place in
    let from = c.stretch_from-from.ensures in
    let upto = rw c.requires.0 at c.stretch_upto-upto.ensures in
    ap (λ (d : ℕ). tile d c.scanned_size-size.result 0) c.corner_at.ensures
    ∙ place_free c.args.scan c.args.tree.words.now v c.requires.1 c.args.z _ c.cut-place.ensures c.requires.2 c.requires.3 (omega (arith, from, c.if-z-from.false))
    _ _ (rw (← from, ← upto) c.largest_in.ensures) c.scanned_size-size.ensures

pub overflow_add-z : goal.overflow_add-z
overflow_add-z c =
    let o = tree_order _ _ c.args.tree.passes in
    let m = area_mono (rw c.requires.0 at o) in
    omega (arith, m, c.requires.2)

pub overflow_sub-place : goal.overflow_sub-place
overflow_sub-place c =
    let at = goal.at.overflow_sub-place c in
    omega (arith, ahead at.Then-z-from (valid at.After-cut-place))

pub bounds-words-place : goal.bounds-words-place
bounds-words-place c =
    let at = goal.at.bounds-words-place c in
    omega (arith, ahead at.Then-z-from (valid at.After-cut-place), c.cut-place.ensures.to)

pub largest_in-requires : goal.largest_in-requires
largest_in-requires c =
    let at = goal.at.largest_in-requires c in
    let w = stretch at.After-stretch_upto-upto (valid at.After-cut-place) in
    (w.from, w.upto)

pub scanned_size-size-requires : goal.scanned_size-size-requires
scanned_size-size-requires c =
    let at = goal.at.scanned_size-size-requires c in
    let o = tree_order _ _ c.args.tree.passes in
    (rw c.requires.0 at o, c.requires.2, fits at.After-largest_in (stretch at.After-stretch_upto-upto (valid at.After-cut-place)), c.requires.3)

pub corner_at-requires : goal.corner_at-requires
corner_at-requires c =
    let at = goal.at.corner_at-requires c in
    let o = tree_order _ _ c.args.tree.passes in
    omega (arith, fits at.After-largest_in (stretch at.After-stretch_upto-upto (valid at.After-cut-place)), c.scanned_size-size.ensures.low, rw c.requires.0 at o)
