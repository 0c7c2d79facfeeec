-- Tiles that end by z are passed; the first other tile, or the bed's end, says what is at z.
use mathlib.Core.Path.{refl}
use native.Mathlib.Omega.{arith}
use Rattle.combine_walk.proofs.Cursor.{stands_over, piece_none, piece_free, piece_on}
use Rattle.combine_walk.proofs.next_piece.Goals as goal

pub loop-at-preserved : goal.loop-at-preserved
loop-at-preserved c =
    let loop = c.loop-at in
    stands_over loop.invariant c.loop-at-test.true _ refl (omega (arith, c.stop-stop.ensures))

pub returns-then-z-corner : goal.returns-then-z-corner
returns-then-z-corner c =
    let loop = c.loop-at in
    piece_free loop.invariant c.loop-at-test.true _ refl _ c.corner-corner.ensures (omega arith)

pub returns-then-z-stop : goal.returns-then-z-stop
returns-then-z-stop c =
    let loop = c.loop-at in
    let loop-test = c.loop-at-test in
    piece_on loop.invariant loop-test.true _ refl _ _ c.stop-stop.ensures c.account-account.ensures (omega (arith, c.corner-corner.ensures))
    (omega (arith, c.if-z-stop.true))

pub returns : goal.returns
returns c = piece_none c.loop-at.invariant c.loop-at-test.false c.requires.0
