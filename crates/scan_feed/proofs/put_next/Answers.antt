-- By kind: the place is searched, or all tiles lie ahead of it.
use Rattle.scan_feed.proofs.NextPlace.{place_low, place_next}
use Rattle.std.proofs.Common.{◌∙◌, sym, arith}
use Rattle.scan_feed.proofs.put_next.Goals as goal

pub returns-in-Rows-clause-placed : goal.returns-in-Rows-clause-placed
returns-in-Rows-clause-placed c = rw c.next_place-place.ensures.z at c.put.ensures

pub returns-in-Morton-clause-placed : goal.returns-in-Morton-clause-placed
returns-in-Morton-clause-placed c = rw (c.next_place-place.ensures.z, sym (c.requires.fits.1 c.in-Morton.is).0) at c.append.ensures.placed

pub returns-in-Morton-clause-trails : goal.returns-in-Morton-clause-trails
returns-in-Morton-clause-trails c =
    let a = c.args in
    λ e. rw (c.next_place-place.ensures.z ∙ place_next a.kind a.order a.pixels c.in-Morton.is) at c.append.ensures.back_value

pub put-requires-clause-z_bound : goal.put-requires-clause-z_bound
put-requires-clause-z_bound c =
    let a = c.args in
    let p = c.requires in
    (place_low a.kind a.order a.pixels _ p.order_le_highest_order.0 p.order_le_highest_order.1 c.next_place-place.ensures.z, p.account_nonzero.0, p.account_nonzero.1)

pub append-requires-clause-front_in_bounds : goal.append-requires-clause-front_in_bounds
append-requires-clause-front_in_bounds c =
    let a = c.args in
    let m = c.in-Morton.is in
    let z = c.next_place-place.ensures.z ∙ place_next a.kind a.order a.pixels m in
    (omega (arith, c.requires.fits.0), rw (sym z) at (c.requires.fits.1 m).1)

pub append-requires-clause-z_bound : goal.append-requires-clause-z_bound
append-requires-clause-z_bound c =
    let a = c.args in
    let p = c.requires in
    (place_low a.kind a.order a.pixels _ p.order_le_highest_order.0 p.order_le_highest_order.1 c.next_place-place.ensures.z, p.account_nonzero.0, p.account_nonzero.1)
