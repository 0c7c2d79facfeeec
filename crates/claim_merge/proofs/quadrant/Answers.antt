-- A block has pixels.
use native.Mathlib.Omega.{arith}
use Rattle.quadtree.proofs.Alignment.{area_pos}
use Rattle.claim_merge.proofs.quadrant.Goals as goal

pub nonzero_div-result : goal.nonzero_div-result
nonzero_div-result c = omega (arith, c.area.ensures, area_pos c.args.tile.size)
