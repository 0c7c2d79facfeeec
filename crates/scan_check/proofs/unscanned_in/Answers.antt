-- The last pixel decides: `unscanned_last`.
use mathlib.Core.Path.{◌≡◌, ◌∙◌, ap}
use Prim.Native.Nat.{ℕ, ◌+◌, ◌-◌, ◌^◌, ◌≤◌, ◌<◌}
use native.Mathlib.Omega.{arith}
use lib.Dec.{leb}
use Rattle.tile.specs.Tile.{highest_order}
use Rattle.quadtree.specs.Raster.{Aligned}
use Rattle.quadtree.proofs.Alignment.{area_pos, area_mono, aligned_room}
use Rattle.bed.specs.Places.{place_of}
use Rattle.bed.proofs.ScannedBlocks.{unscanned_last}
use Rattle.scan_check.proofs.unscanned_in.Goals as goal

-- the block ends in the bed
room : {n c k : ℕ} (a : ℕ) → a ≡ 4 ^ k → k ≤ n → c < 4 ^ n → Aligned k c → c + a ≤ 4 ^ n
room a e l i m = rw e (aligned_room l m i)

pub overflow_add-last : goal.overflow_add-last
overflow_add-last c =
    let b : 4 ^ c.args.scan.order ≤ 4 ^ highest_order = area_mono c.requires.0 in
    omega (arith, room _ c.area.ensures c.requires.1 c.requires.2 c.requires.3)

pub overflow_sub-last : goal.overflow_sub-last
overflow_sub-last c = omega (arith, c.area.ensures, area_pos c.args.block.size)

pub place-requires : goal.place-requires
place-requires c = (c.requires.0, omega (arith, room _ c.area.ensures c.requires.1 c.requires.2 c.requires.3, c.area.ensures, area_pos c.args.block.size))

pub returns : goal.returns
returns c =
    let a = c.args in
    let p = c.requires in
    let e : c.place.result ≡ place_of a.scan.kind a.scan.order (a.block.corner + 4 ^ a.block.size - 1) = rw (← c.area.ensures) c.place.ensures in
    ap (leb a.scan.pixels) e ∙ unscanned_last a.scan.kind a.scan.order a.scan.pixels a.block.corner a.block.size p.3 (aligned_room p.1 p.3 p.2)
