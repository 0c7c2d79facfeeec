-- The outcome, and where it fits room, the tiles, zeros.
use native.Mathlib.Omega.{arith}
use Rattle.std.proofs.lemmas.Result.{err_from_is_err_and}
use Rattle.claim.proofs.Refusals.{claim_of_refused}
use Rattle.claim.proofs.Whole.{bounds, known_drawn, known_done}
use Rattle.claim.proofs.claim.Goals as goal

pub returns-in_err-planned : goal.returns-in_err-planned
returns-in_err-planned c =
    let a = c.args in
    let p = err_from_is_err_and c.from_residual.result c.from_residual.ensures.1 in
    rw (p.1, p.2) (claim_of_refused a.scan a.slots.now a.tile.corner a.tile.size a.tile.account _ c.in_err-planned.ensures)

pub returns : goal.returns
returns c =
    let f = c.in_ok-planned.ensures in
    known_done f.0 c.make_room.ensures c.write_pieces.ensures _ f.1 (omega (arith, c.make_room.auto, c.write_pieces.auto)) c.clear_from.ensures

pub make_room-requires : goal.make_room-requires
make_room-requires c = let f = c.in_ok-planned.ensures in omega (arith, bounds f.0, f.1)

pub write_pieces-requires : goal.write_pieces-requires
write_pieces-requires c = let f = c.in_ok-planned.ensures in (known_drawn f.0 _ (omega (arith, c.make_room.auto)) f.1, (bounds f.0).pieces)

pub clear_from-requires : goal.clear_from-requires
clear_from-requires c = let f = c.in_ok-planned.ensures in omega (arith, f.1, c.make_room.auto, c.write_pieces.auto)
