-- The loop keeps `Suiting`: what has been weighed suits, and the largest band in it is taken.
use Rattle.scan_suit.proofs.Suited.{Suiting}
use Rattle.scan_suit.proofs.band_size.Given as goal

abbrev pub invariant-loop-size : goal.invariant-loop-size
invariant-loop-size l = Suiting l.accounts l.start l.order l.pixels l.free l.row l.at l.size l.rows l.end l.weight
