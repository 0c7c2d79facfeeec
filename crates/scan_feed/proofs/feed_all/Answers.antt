-- The loop keeps `FedOn` from the start of the feed on: the plain bed's feed goes on from the account number `taken`.
use Rattle.refusal.proofs.RefusedLaws.{number_some}
use Rattle.scan_feed.proofs.FeedTurns.{fed_then, opened_none, opened_holds, fed_refused, fed_end}
use Rattle.std.proofs.lemmas.Result.{err_from_is_err_and}
use Rattle.std.proofs.Common.{refl, arith}
use Rattle.scan_feed.proofs.feed_all.Goals as goal

pub returns-in_err-at : goal.returns-in_err-at
returns-in_err-at c =
    let w = c.loop-at.invariant in
    let some = number_some c.in_err-at.field-0.0.refusal in
    let p = err_from_is_err_and c.from_residual.result c.from_residual.ensures.1 in
    rw (p.1, p.2) (fed_refused _ _ _ c.requires _ _ (fed_then _ _ _ _ _ _ _ _ _ _ _ _ _ _ _ w.fed w.long c.in_err-at.ensures.fed_on) (λ e. omega (arith, some, e)))

pub returns : goal.returns
returns c = fed_end _ _ _ c.requires _ _ c.loop-at.invariant.fed refl (omega (arith, c.loop-at.invariant.fed.given))

pub loop-at-init : goal.loop-at-init
loop-at-init c = record { long = refl; fed = opened_none _ _ _ c.requires }

pub feed_some-requires-clause-fits : goal.feed_some-requires-clause-fits
feed_some-requires-clause-fits c =
    let w = c.loop-at.invariant.fed in
    (w.fits, (w.on _ (opened_holds _ _ c.args.accounts.now c.requires)).trails refl)
