-- Refused, nothing changes; else the plain bed's feed, with the gap closed.
use Rattle.refusal.specs.Refused.{said}
use Rattle.refusal.proofs.RefusedLaws.{number_some}
use Rattle.scan_check.proofs.Opening.{opening_opened}
use Rattle.scan_feed.specs.Feeding.{FedTo}
use Rattle.scan.proofs.Feeds.{plain, feed_refused, feed_done}
use Rattle.scan.proofs.feed.Goals.{in-Ok, in-Err-feed_all}
use Rattle.std.proofs.Common.{◌∙◌, sym, arith}
use Rattle.scan.proofs.feed.Goals as goal

pub returns-in-Err : goal.returns-in-Err
returns-in-Err c =
    let a = c.args in
    let some = number_some c.in-Err.refusal in
    feed_refused a.scan a.slots.now a.accounts.now _ c.in-Err.ensures.number (λ e. omega (arith, some, e))

pub returns : goal.returns
returns c =
    let a = c.args in
    let end = c.match-feed_all.end in
    let r = c.feed_all in
    let q = c.close in
    let fed : FedTo a.scan (plain a.scan a.slots.now a.accounts.now) r.new.slots (record { number = said end.0; taken = end.1.taken; pixels = end.1.pixels; front = end.1.gap.front; back = end.1.gap.back }) =
    elim c.match-feed_all.branch [ in-Ok w ↦ rw w.end-is w.in-Ok.ensures | in-Err-feed_all w ↦ rw w.end-is w.in-Err-feed_all.ensures ] in
    feed_done a.scan a.slots.now a.accounts.now _ _ _ fed r.auto.slots (q.auto.slots ∙ r.auto.slots) q.ensures (sym c.in_default.ensures.number)

pub feed_all-requires : goal.feed_all-requires
feed_all-requires c = opening_opened _ _ (sym c.in_default.ensures.number)
