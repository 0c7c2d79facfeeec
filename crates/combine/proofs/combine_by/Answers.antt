-- The checks of the maps, then the pass that counts, and the one that writes.
use mathlib.Core.Path.{sym}
use native.Mathlib.Omega.{arith}
use Rattle.std.proofs.Common.{rules}
use Rattle.refusal.proofs.RefusedLaws.{else_passed, else_refused, unless_refused}
use Rattle.combine.specs.Combine.{maps_check, combine_refusal, combine_by}
use Rattle.combine.proofs.CombineLaws.{maps_orders, maps_accepted, third_whole, combine_by_refused, combine_by_slots, combine_by_done}
use Rattle.combine.proofs.combine_by.Goals as goal

pub returns-in_err-first : goal.returns-in_err-first
unfolding maps_check combine_refusal combine_by
returns-in_err-first g c = search (rules, else_refused, unless_refused)

pub returns-in_err-second : goal.returns-in_err-second
unfolding maps_check combine_refusal combine_by
returns-in_err-second g c = rw (else_passed _ c.in_ok-first.ensures.number) (search (rules, else_refused, unless_refused))

pub returns-then-order1-order2 : goal.returns-then-order1-order2
returns-then-order1-order2 g c =
    combine_by_refused _ _ _ _ _ _ _ _ _ (maps_orders _ _ _ _ _ _ (sym c.in_ok-first.ensures.number) (sym c.in_ok-second.ensures.number) (λ e. omega (arith, c.if-order1-order2.true))) (λ e. omega arith)

pub returns-then-out-tiles : goal.returns-then-out-tiles
returns-then-out-tiles g c =
    let one = c.in_ok-first.ensures in
    let two = c.in_ok-second.ensures in
    let passed = sym (maps_accepted _ _ _ _ _ _ (sym one.number) (sym two.number) (omega (arith, c.if-order1-order2.false))) in
    let whole = third_whole (g.R.Rule.made c.args.rule) _ c.args.tiles1 c.args.slots1.now c.args.tiles2 c.args.slots2.now one.tree.0 one.tree.1 two.tree.1 in
    combine_by_slots _ _ _ _ _ _ _ _ passed (omega (arith, c.if-out-tiles.true, rw whole at c.count-tiles.ensures))

pub returns : goal.returns
returns g c =
    let one = c.in_ok-first.ensures in
    let two = c.in_ok-second.ensures in
    let passed = sym (maps_accepted _ _ _ _ _ _ (sym one.number) (sym two.number) (omega (arith, c.if-order1-order2.false))) in
    let whole = third_whole (g.R.Rule.made c.args.rule) _ c.args.tiles1 c.args.slots1.now c.args.tiles2 c.args.slots2.now one.tree.0 one.tree.1 two.tree.1 in
    combine_by_done _ _ _ _ _ _ _ _ passed _ (rw whole at c.count-tiles.ensures) c.if-out-tiles.false (rw whole at c.write.ensures) c.clear_from.ensures
