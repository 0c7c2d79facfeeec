-- Run by run: what is left of the linear quadtree makes the slots that are promised.
use Prim.Native.Nat.{◌-◌}
use Rattle.std.specs.Prelude.{length}
use Rattle.combine_rule.specs.Rule.{third_raster}
use Rattle.combine_walk.specs.Walk.{NextBy, begin_of}
use Rattle.list_cut.proofs.Passes.{Written}
use Rattle.combine.proofs.Maps.write.Given as goal

abbrev pub invariant-loop-next : goal.invariant-loop-next
invariant-loop-next g l = let p = l.pair in
    NextBy (g.R.Rule.made l.rule) p.end p.first.now p.second.now l.next
    × Written l.self.first.order (third_raster (g.R.Rule.made l.rule) (length p.first.now) p.first.now (length p.second.now) p.second.now) l.initial.out l.out (begin_of p.end l.next) l.at

abbrev pub decreases-loop-next : goal.decreases-loop-next
decreases-loop-next g l = l.pair.end - begin_of l.pair.end l.next
