-- A refusal leaves before any store; an accepted file has room for what is read of it.
use Rattle.std.proofs.Common.{rules}
use Rattle.refusal.proofs.RefusedLaws.{unless_refused}
use Rattle.mapfile_read.specs.Reader.{read_of}
use Rattle.mapfile_read.proofs.Examining.{read_room, read_stored}
use Rattle.mapfile_read.proofs.read.Goals as goal

pub returns-in_err-order : goal.returns-in_err-order
unfolding read_of
returns-in_err-order c = search (rules, unless_refused)

pub returns : goal.returns
returns c =
    let e = c.in_ok-order.ensures in
    read_stored _ _ e.number _ e.found.1 _ _ _ e.found.0 c.store.ensures c.clear_from.ensures

pub store-requires : goal.store-requires
store-requires c = let e = c.in_ok-order.ensures in read_room _ _ e.number _ e.found.1
