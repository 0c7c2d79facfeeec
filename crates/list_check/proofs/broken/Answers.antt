-- The code's tests are the definition's, in its order; what breaks one of the checks and none of those ahead of 15 breaks 15.
use native.Mathlib.Omega.{arith}
use Rattle.tile.proofs.TileLaws.{tile_of_size}
use Rattle.quadtree.proofs.Alignment.{area_pos}
use Rattle.list_flat.proofs.FaultLaws.{area_of_lem, remainder_aligned}
use Rattle.list_check.proofs.OneWord.{aligned_remainder, broken_high, broken_size, broken_corner, broken_account, broken_overlap}
use Rattle.list_check.proofs.broken.Goals as goal

pub returns-then-word-ge-WORD_LIMIT : goal.returns-then-word-ge-WORD_LIMIT
returns-then-word-ge-WORD_LIMIT c = λ lo q. broken_high c.args.order lo c.args.word (omega arith)

pub returns-then-limit-area : goal.returns-then-limit-area
returns-then-limit-area c = λ lo q.
    let a = c.args in
    let area = area_of_lem a.word c.size.ensures c.area-area.ensures in
    broken_size a.order lo a.word (omega arith) (omega (arith, c.area-limit.ensures))

pub returns-then-limit-corner : goal.returns-then-limit-corner
returns-then-limit-corner c = λ lo q.
    let a = c.args in
    let area = area_of_lem a.word c.size.ensures c.area-area.ensures in
    let limit = c.area-limit.ensures in
    broken_corner a.order lo a.word (omega arith) (omega arith) (λ p. omega (arith, p.0, c.corner-corner.ensures))

pub returns-then-corner-area-ne0 : goal.returns-then-corner-area-ne0
returns-then-corner-area-ne0 c = λ lo q.
    let a = c.args in
    let area = area_of_lem a.word c.size.ensures c.area-area.ensures in
    let limit = c.area-limit.ensures in
    broken_corner a.order lo a.word (omega arith) (omega arith)
    (λ p. c.if-corner-area-ne0.true (aligned_remainder a.word _ _ _ c.corner-corner.ensures c.size.ensures c.area-area.ensures p.1))

pub returns-then-account-eq0 : goal.returns-then-account-eq0
returns-then-account-eq0 c = λ lo q.
    let a = c.args in
    let corner = c.corner-corner.ensures in
    let area = area_of_lem a.word c.size.ensures c.area-area.ensures in
    let limit = c.area-limit.ensures in
    let aligned = remainder_aligned a.word _ _ _ corner c.size.ensures c.area-area.ensures c.if-corner-area-ne0.false in
    broken_account a.order lo a.word (omega arith) (omega arith) (omega arith) aligned (omega (arith, c.account.ensures, c.if-account-eq0.true))

pub returns : goal.returns
returns c = λ lo q.
    let a = c.args in
    let corner = c.corner-corner.ensures in
    let area = area_of_lem a.word c.size.ensures c.area-area.ensures in
    let limit = c.area-limit.ensures in
    let aligned = remainder_aligned a.word _ _ _ corner c.size.ensures c.area-area.ensures c.if-corner-area-ne0.false in
    broken_overlap a.order lo a.word (omega arith) (omega arith) (omega arith) aligned (omega (arith, c.account.ensures, c.if-account-eq0.false)) q

pub area-area-requires : goal.area-area-requires
area-area-requires c = omega (arith, c.size.ensures, tile_of_size c.args.word)

pub nonzero_rem-corner : goal.nonzero_rem-corner
nonzero_rem-corner c = omega (arith, c.area-area.ensures, area_pos c.size.result)
