-- The tile at lo covers the block; or it is released; or a tile of its size is merged.
use Prim.Native.Nat.{◌^◌, ◌≤◌}
use native.Mathlib.Omega.{arith}
use Rattle.tile.specs.Tile.{highest_order}
use Rattle.quadtree.proofs.Alignment.{area_mono}
use Rattle.basics.proofs.Tests.{told_false}
use Rattle.claim_plan.proofs.Cases.{claimable_room, merges_changes}
use Rattle.claim_plan.proofs.Searches.{free_cleared, free_stands}
use Rattle.claim_plan.proofs.find_change.Goals as goal

pub returns-then-account-eq0 : goal.returns-then-account-eq0
returns-then-account-eq0 c =
    free_cleared c.requires c.first_past-lo.ensures (told_false c.covered.ensures c.if-covered.false) (rw c.area.ensures at c.first_past-hi.ensures) c.if-account-eq0.true

pub returns : goal.returns
returns c = merges_changes c.requires c.merge-lo.ensures.1

pub overflow_add-corner : goal.overflow_add-corner
overflow_add-corner c =
    let l : 4 ^ c.args.tree.order ≤ 4 ^ highest_order = area_mono c.requires.order in
    omega (arith, c.area.ensures, claimable_room c.requires)

pub merge-lo-requires : goal.merge-lo-requires
merge-lo-requires c = (
  c.requires.order,
  free_stands c.requires c.first_past-lo.ensures (told_false c.covered.ensures c.if-covered.false) (rw c.area.ensures at c.first_past-hi.ensures) c.if-account-eq0.false,
)
