-- The first pass counts, the second puts.
use Rattle.std.proofs.Common.{arith, sym, rules}
use Rattle.listing.proofs.LentLaws.{listed_in_few, listed_in_fits}
use Rattle.listing.proofs.Listing.write.Goals as goal

pub returns-then-out-length : goal.returns-then-out-length
returns-then-out-length c =
    let w = rw c.new-counter.ensures.front at c.put.ensures.put in
    listed_in_few c.args.out.now w (omega (arith, c.count-length.ensures, c.if-out-length.true))

pub returns : goal.returns
returns c =
    let e = c.new-writer.ensures in
    let v = rw (c.new-counter.ensures.front, sym c.count-length.ensures) at c.put.ensures.put in
    let w = rw (e.front, e.unchanged) at c.put-2.ensures.put in
    let z = listed_in_fits v w (omega (arith, c.if-out-length.false)) in
    search rules
