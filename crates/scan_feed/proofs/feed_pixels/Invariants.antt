-- The loop keeps `FedOn`: the plain bed's feed goes on from the account number `taken`.
use Rattle.scan_feed.specs.Feeding.{Trails, FedOn}
use Rattle.scan_feed.proofs.FeedTurns.{up_to}
use Rattle.std.proofs.Common.{◌≡◌, length}
use Rattle.scan_feed.proofs.feed_pixels.Given as goal

abbrev pub invariant-loop-taken : goal.invariant-loop-taken
invariant-loop-taken l = record {
  long : length l.slots ≡ length l.initial.slots;
  trails : Trails l.kind l.slots l.gap.front l.gap.back l.pixels;
  fed : FedOn l.kind l.feed.order l.feed.accounts.now l.fn.at.taken l.initial.pixels l.initial.slots l.slots l.initial.gap.front l.initial.gap.back (up_to l.taken l.pixels l.gap.front l.gap.back);
}
