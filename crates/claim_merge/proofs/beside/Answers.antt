-- Room on both sides, then the siblings ahead and those behind.
use Rattle.claim_merge.proofs.SiblingsBeside.{beside_few, beside_end, beside_ahead, beside_behind}
use Rattle.claim_merge.proofs.beside.Goals as goal

pub returns-then-lo-before : goal.returns-then-lo-before
returns-then-lo-before c = beside_few _ _ _ c.args.standing.tile _ _ c.quadrant-place.ensures c.area-area.ensures c.if-lo-before.true

pub returns-then-list-hi : goal.returns-then-list-hi
returns-then-list-hi c = beside_end _ _ _ c.args.standing.tile _ _ c.quadrant-place.ensures c.area-area.ensures c.if-list-hi.true

pub returns-then-not-are_equal : goal.returns-then-not-are_equal
returns-then-not-are_equal c = beside_ahead _ _ _ c.args.standing.tile _ _ c.quadrant-place.ensures c.area-area.ensures c.if-lo-before.false c.requires.0 c.are_equal.ensures c.if-not-are_equal.true

pub returns : goal.returns
returns c =
    beside_behind _ _ _ c.args.standing.tile _ _ c.quadrant-place.ensures c.area-area.ensures c.if-lo-before.false c.requires.0 c.requires.1 c.if-list-hi.false c.are_equal.ensures c.if-not-are_equal.false c.are_equal-2.ensures
