-- The listing of what was read is that of the whole input, and fits.
use Rattle.std.proofs.Common.{sym, ◌∙◌, arith, take, length-take-le}
use Rattle.listing.specs.Answers.{listed}
use Rattle.listing_whole.proofs.Bounds.{whole_listed, listed_length}
use Rattle.listing_whole.proofs.list_whole.Goals as goal

pub returns : goal.returns
returns c =
    let a = c.args in
    let w = whole_listed (take a.count a.read.now) a.out.now _ (listed c.list.result) (omega arith) c.list.ensures in
    rw (sym (c.unwrap_or.ensures ∙ listed_length c.list.result)) at w

pub slice_bounds-list-end : goal.slice_bounds-list-end
slice_bounds-list-end c = sym (length-take-le c.args.count c.args.read.now (omega arith))
