-- The loop keeps `FedOn`: the plain bed's feed goes on from the account number `taken`.
use Rattle.refusal.proofs.RefusedLaws.{number_some}
use Rattle.scan_feed.proofs.FeedTurns.{fed_then, fed_stop, fed_pixel}
use Rattle.quadtree.proofs.Alignment.{area_mono}
use Rattle.tile.specs.Tile.{highest_order}
use Rattle.std.proofs.Common.{refl, ◌∙◌, ◌^◌, ◌≤◌, arith}
use Rattle.scan_feed.proofs.feed_pixels.Goals as goal

pub returns-in-Err-clause-fed_on : goal.returns-in-Err-clause-fed_on
returns-in-Err-clause-fed_on c =
    let w = c.loop-taken.invariant in
    let some = number_some c.in-Err.field-0.refusal in
    fed_then _ _ _ _ _ _ _ _ _ _ _ _ _ _ _ w.fed w.long (fed_stop _ _ _ _ _ _ _ _ (omega arith) _ refl _ _ c.in-Err.ensures w.fed.within (λ e. omega (arith, some, e)))

pub loop-taken-preserved : goal.loop-taken-preserved
loop-taken-preserved c =
    let w = c.loop-taken.invariant in
    let step = c.in-Ok.ensures in
    record {
      long = c.feed_pixel.auto.slots ∙ w.long;
      trails = step.trails;
      fed = fed_then _ _ _ _ _ _ _ _ _ _ _ _ _ _ _ w.fed w.long (fed_pixel _ _ _ _ _ _ _ _ (omega arith) _ refl _ _ step refl);
    }

pub overflow_add-pixels : goal.overflow_add-pixels
overflow_add-pixels c =
    let big : 4 ^ c.args.feed.order ≤ 4 ^ highest_order = area_mono c.requires.order_le_highest_order.0 in
    omega (arith, c.loop-taken.invariant.fed.within)
