-- The loop keeps `FedOn` from the start of the feed on: the plain bed's feed goes on from the account number `taken`.
use Rattle.scan_feed.specs.Feeding.{FedOn}
use Rattle.scan_feed.proofs.FeedTurns.{up_to}
use Rattle.std.proofs.Common.{◌≡◌, ◌-◌, length}
use Rattle.scan_feed.proofs.feed_all.Given as goal

abbrev pub invariant-loop-at : goal.invariant-loop-at
invariant-loop-at l = record {
  long : length l.slots ≡ length l.initial.slots;
  fed : FedOn l.kind l.feed.order l.accounts 0 l.feed.start l.initial.slots l.slots l.initial.at.gap.front l.initial.at.gap.back (up_to l.at.taken l.at.pixels l.at.gap.front l.at.gap.back);
}

abbrev pub decreases-loop-at : goal.decreases-loop-at
decreases-loop-at l = length l.accounts - l.at.taken
