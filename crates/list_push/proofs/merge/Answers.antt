-- The loop keeps `Grown`: the words from `at` on and the tile can be dropped for the tile of the size reached.
use Rattle.list_push.proofs.Growth.{grown_more, sibling_room, sibling_end, merged_short, merged_other, merged_top}
use mathlib.Core.Path.{◌≡◌}
use native.Mathlib.Omega.{arith}
use Rattle.list_push.proofs.merge.Goals as goal
use Rattle.list_push.proofs.merge.Goals.{then-at-lt3-via-then-at-lt3, then-at-lt3-via-else-at-lt3+then-not-siblings}

pub returns : goal.returns
returns c =
    let l = c.loop-size in
    let e : l.size ≡ c.args.levels = omega arith in
    merged_top c.requires.size_le_levels.1 (rw e at l.invariant.1) (omega arith) (omega arith)

pub returns-then-at-lt3 : goal.returns-then-at-lt3
returns-then-at-lt3 c =
    let l = c.loop-size in
    let p = c.requires in
    let e = sibling_end c.args.tile l.size _ _ p.size_le_levels.1 (omega arith) c.area.ensures c.area-in-loop-size.ensures in
    elim c.then-at-lt3.branch [
      | then-at-lt3-via-then-at-lt3 w ↦ merged_short p.size_le_levels.1 l.invariant.1 l.invariant.0 w.if-at-lt3.true (omega (arith, l.invariant.1.back))
      | then-at-lt3-via-else-at-lt3+then-not-siblings w ↦ merged_other p.size_le_levels.1 l.invariant.1 l.invariant.0 (rw e at (w.siblings.ensures.are_not w.if-not-siblings.true))
    ]

pub loop-size-preserved : goal.loop-size-preserved
loop-size-preserved c =
    let l = c.loop-size in
    let e = sibling_end c.args.tile l.size _ _ c.requires.size_le_levels.1 (omega arith) c.area.ensures c.area-in-loop-size.ensures in (
      omega arith,
      grown_more c.requires.size_le_levels.1 l.invariant.1 (omega arith) (omega arith) (rw e at (c.siblings.ensures.are c.if-not-siblings.false)),
    )

pub overflow_sub-last : goal.overflow_sub-last
overflow_sub-last c =
    let l = c.loop-size in
    let p = c.requires in
    omega (arith, c.area.ensures, c.area-in-loop-size.ensures, sibling_room c.args.tile l.size p.size_le_levels.1 (omega arith))

pub siblings-requires : goal.siblings-requires
siblings-requires c =
    let l = c.loop-size in
    let p = c.requires in
    let room = sibling_room c.args.tile l.size p.size_le_levels.1 (omega arith) in
    rw (sibling_end c.args.tile l.size _ _ p.size_le_levels.1 (omega arith) c.area.ensures c.area-in-loop-size.ensures) (record {
      long = omega arith;
      within = omega (arith, l.invariant.1.back);
      room = room;
      inside = p.size_bound.0;
      few = omega (arith, p.size_le_levels.1.few);
      low = p.size_bound.1;
    })
