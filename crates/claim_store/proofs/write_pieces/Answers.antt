-- Level by level: what is left to write makes the slots that are promised.
use native.Mathlib.Omega.{arith}
use Rattle.claim_store.proofs.Levels.{level, behind_length, put_parts, put_room, put_one, put_none}
use Rattle.claim_store.proofs.write_pieces.Goals as goal

pub loop-s-preserved : goal.loop-s-preserved
loop-s-preserved c = put_parts c.loop-s.invariant (omega arith) c.area-area.ensures c.write_equal.ensures c.write_equal-in-loop-s.ensures

pub returns-then-account-ne0 : goal.returns-then-account-ne0
returns-then-account-ne0 c = let i = c.loop-s.invariant in rw c.word.ensures (put_one i (omega (arith, i.drawn.sizes)) c.if-account-ne0.true)

pub returns-else-account-ne0 : goal.returns-else-account-ne0
returns-else-account-ne0 c = let i = c.loop-s.invariant in put_none i (omega (arith, i.drawn.sizes)) c.if-account-ne0.false

pub bounds-slots-left : goal.bounds-slots-left
bounds-slots-left c = let i = c.loop-s.invariant in put_room i (omega (arith, i.drawn.sizes)) c.if-account-ne0.true

pub write_equal-requires-in-loop-s : goal.write_equal-requires-in-loop-s
write_equal-requires-in-loop-s c =
    let i = c.loop-s.invariant in
    let l = level i (omega arith) c.area-area.ensures in
    (l.small, i.drawn.owner, rw (behind_length i (omega arith) c.area-area.ensures c.write_equal.ensures) l.behind)
