-- The checks in turn, and the pixel put.
use Rattle.scan_feed.proofs.PixelSteps.{stepped_full, stepped_account, stepped_nobody, stepped_slots, stepped_done}
use Rattle.std.proofs.Common.{refl, arith}
use Rattle.scan_feed.proofs.feed_pixel.Goals as goal

pub returns-then-pixels-area : goal.returns-then-pixels-area
returns-then-pixels-area c =
    let p = c.requires in
    rw c.at.ensures (stepped_full _ _ _ _ _ _ _ p.fits.0 p.fits.1 p.order_le_highest_order.1 (omega (arith, c.area.ensures, c.if-pixels-area.true)))

pub returns-then-account-gt-HIGHEST_ACCOUNT : goal.returns-then-account-gt-HIGHEST_ACCOUNT
returns-then-account-gt-HIGHEST_ACCOUNT c =
    let p = c.requires in
    rw c.at-then-account-gt-HIGHEST_ACCOUNT.ensures (stepped_account _ _ _ _ _ _ _ p.fits.0 p.fits.1 p.order_le_highest_order.1 (λ q. omega (arith, c.area.ensures, c.if-pixels-area.false)) c.if-account-gt-HIGHEST_ACCOUNT.true)

pub returns-then-account-eq0 : goal.returns-then-account-eq0
returns-then-account-eq0 c =
    let p = c.requires in
    stepped_nobody _ _ _ _ _ _ _ p.fits.0 p.fits.1 p.order_le_highest_order.1 (λ q. omega (arith, c.area.ensures, c.if-pixels-area.false)) c.if-account-eq0.true

pub returns-in-Ok : goal.returns-in-Ok
returns-in-Ok c =
    let p = c.requires in
    stepped_done _ _ _ _ _ _ _ p.fits.0 p.fits.1 p.order_le_highest_order.1 (λ q. omega (arith, c.area.ensures, c.if-pixels-area.false)) (omega arith) _ _ c.in-Ok.ensures.placed c.in-Ok.ensures.trails refl

pub returns-in-Err : goal.returns-in-Err
returns-in-Err c =
    let p = c.requires in
    rw c.at-in-Err.ensures (stepped_slots _ _ _ _ _ _ _ p.fits.0 p.fits.1 p.order_le_highest_order.1 (λ q. omega (arith, c.area.ensures, c.if-pixels-area.false)) (omega arith) _ _ c.in-Err.ensures.placed c.in-Err.ensures.trails refl)
