-- Each test that fails shows that the word breaks a check; where all pass, its tile is sound.
use native.Mathlib.Omega.{arith}
use Rattle.basics.proofs.Tests.{fails, test_leb, test_map}
use Rattle.tile.proofs.Bits.{stop_fits}
use Rattle.tile.proofs.TileLaws.{tile_of_size}
use Rattle.quadtree.proofs.Alignment.{area_pos}
use Rattle.list_check.proofs.OneWord.{sound_passed, plain_far, plain_odd, plain_sound}
use Rattle.list_check.proofs.plain.Goals as goal

pub returns-then-area-corner : goal.returns-then-area-corner
returns-then-area-corner c =
    let a = c.args in
    fails (plain_far a.order a.stop a.word _ _ _ _ c.corner-corner.ensures c.size.ensures c.area-area.ensures c.area.ensures (omega arith))

pub returns-then-over-ne0 : goal.returns-then-over-ne0
returns-then-over-ne0 c =
    let a = c.args in
    fails (plain_odd a.order a.stop a.word _ _ _ _ c.corner-corner.ensures c.size.ensures c.area-area.ensures c.area.ensures c.if-over-ne0.true)

pub returns-then-account-eq0 : goal.returns-then-account-eq0
returns-then-account-eq0 c =
    let a = c.args in
    fails (λ e. omega (arith, (sound_passed a.order a.stop a.word e).quadrant.owned, c.account-account.ensures, c.if-account-eq0.true))

pub returns : goal.returns
returns c =
    let a = c.args in
    let corner = c.corner-corner in
    test_map
    (λ l. plain_sound a.order a.stop a.word _ _ _ _ corner.ensures c.size.ensures c.area-area.ensures c.area.ensures (omega arith) (omega arith) (omega arith) (omega (arith, c.account-account.ensures, c.if-account-eq0.false)) l)
    (λ e. omega (arith, (sound_passed a.order a.stop a.word e).after, corner.ensures))
    (test_leb a.stop corner.result)

pub area-area-requires : goal.area-area-requires
area-area-requires c = omega (arith, c.size.ensures, tile_of_size c.args.word)

pub overflow_add-corner : goal.overflow_add-corner
overflow_add-corner c = record { fits = stop_fits c.args.word _ _ _ c.ranges.word.fits c.corner-corner.ensures c.size.ensures c.area-area.ensures }

pub nonzero_rem-over : goal.nonzero_rem-over
nonzero_rem-over c = omega (arith, c.area-area.ensures, area_pos c.size.result)
