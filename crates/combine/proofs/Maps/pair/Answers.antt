-- The order of a checked list is a bed's.
use native.Mathlib.Omega.{arith}
use Rattle.list_check.proofs.TreeLaws.{tree_order}
use Rattle.combine.proofs.Maps.pair.Goals as goal

pub area-requires : goal.area-requires
area-requires c = omega (arith, tree_order _ _ c.args.self.first.passes)
