-- The loop keeps `Laying`: the band is put up to a column.
use Rattle.scan_band.proofs.Laying.{Laying}
use Prim.Native.Nat.{◌-◌}
use Rattle.scan_band.proofs.put_band.Given as goal

abbrev pub invariant-loop-column : goal.invariant-loop-column
invariant-loop-column l = Laying l.initial.slots l.slots l.initial.moved.front l.initial.moved.back l.feed.order l.feed.start l.feed.accounts.now l.row l.size l.column l.moved.front l.moved.back

abbrev pub decreases-loop-column : goal.decreases-loop-column
decreases-loop-column l = l.width - l.column
