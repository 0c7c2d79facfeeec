-- The tiles that start in the block lie in it, unless the first of them is larger.
use mathlib.Core.Path.{◌≡◌, ◌∙◌, ap}
use Prim.Native.Nat.{ℕ, ◌+◌, ◌^◌}
use native.Mathlib.Omega.{arith}
use lib.ListN.{length}
use Rattle.tile.specs.Slots.{tiles_in}
use Rattle.quadtree.proofs.Alignment.{area_mono}
use Rattle.quadtree.proofs.Linear.{valid_linear}
use Rattle.list_check.proofs.TreeLaws.{tiles_whole}
use Rattle.list_search.specs.Count.{is_ahead, counted}
use Rattle.part.specs.declared.Part.{Part}
use Rattle.part.proofs.InsideLaws.{whole_passed, to_le, inside_none, inside_large, inside_rest}
use Rattle.part.proofs.inside.Goals as goal
use Rattle.part.proofs.inside.Goals.{After-ahead-end, else-position-end-via-then-position-end+else-size, else-position-end-via-else-position-end}

answer : {p q l m : ℕ} → p ≡ q → l ≡ m → ◌≡◌ {A = Part} (record { position = p; length = l }) (record { position = q; length = m })
answer e h = cc

-- how many tiles start ahead of the block's end
end_at : (c : After-ahead-end) → let ws = c.args.map.words.now in
    c.ahead-end.result ≡ counted (is_ahead (c.args.block.corner + 4 ^ c.args.block.size)) (tiles_in (length ws) ws)
end_at c = let ws = c.args.map.words.now in
    c.ahead-end.ensures ∙ ap (λ (x : ℕ). counted (is_ahead (c.args.block.corner + x)) (tiles_in (length ws) ws)) c.area.ensures

pub returns-then-size : goal.returns-then-size
returns-then-size c =
    let ws = c.args.map.words.now in
    let e = end_at (goal.at.returns-then-size c).After-ahead-end in
    rw (← tiles_whole ws) (answer c.ahead-position.ensures (inside_rest (whole_passed c.args.map.passes c.requires) _ _ c.ahead-position.ensures e c.if-position-end.true (omega (arith, c.size.ensures, c.if-size.true))))

pub returns : goal.returns
returns c =
    let ws = c.args.map.words.now in
    let b = whole_passed c.args.map.passes c.requires in
    let e = end_at (goal.at.returns c).After-ahead-end in
    rw (← tiles_whole ws) (answer c.ahead-position.ensures (elim c.else-position-end.branch [
      | else-position-end-via-then-position-end+else-size w ↦ inside_large b _ _ c.ahead-position.ensures e w.if-position-end.true (omega (arith, w.size.ensures, w.if-size.false))
      | else-position-end-via-else-position-end w ↦ inside_none b _ _ c.ahead-position.ensures e w.if-position-end.false
    ]))

pub ahead-position-requires : goal.ahead-position-requires
ahead-position-requires c = let b = whole_passed c.args.map.passes c.requires in (b.count, (valid_linear b.valid).rising)

pub area-requires : goal.area-requires
area-requires c = let b = whole_passed c.args.map.passes c.requires in omega (arith, b.size, b.order)

pub overflow_add-corner : goal.overflow_add-corner
overflow_add-corner c =
    let b = whole_passed c.args.map.passes c.requires in
    omega (arith, b.inside, c.area.ensures, area_mono b.order, area_mono b.size)

pub ahead-end-requires : goal.ahead-end-requires
ahead-end-requires c = let b = whole_passed c.args.map.passes c.requires in (b.count, (valid_linear b.valid).rising)

pub offset_bounds-words-position : goal.offset_bounds-words-position
offset_bounds-words-position c =
    let b = whole_passed c.args.map.passes c.requires in
    omega (arith, to_le b _ _ c.ahead-position.ensures (end_at (goal.at.offset_bounds-words-position c).After-ahead-end), c.if-position-end.true)

pub bounds-words-position : goal.bounds-words-position
bounds-words-position c =
    let b = whole_passed c.args.map.passes c.requires in
    omega (arith, to_le b _ _ c.ahead-position.ensures (end_at (goal.at.bounds-words-position c).After-ahead-end), c.if-position-end.true)
