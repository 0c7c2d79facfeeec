-- What the test shows: each of its four parts fails.
use mathlib.Core.Path.{ap}
use Prim.Native.Nat.{◌^◌}
use native.Mathlib.Omega.{arith}
use borrow.Author.Tests.{eqb-true, eqb-false, eq-eqb, ltb-false, not-false}
use Rattle.basics.proofs.Tests.{neither}
use Rattle.tile.specs.declared.Tile.{Tile}
use Rattle.tile.proofs.TileLaws.{tile_of_size}
use Rattle.tile.proofs.Bits.{stop_fits}
use Rattle.quadtree.proofs.Alignment.{area_pos}
use Rattle.list_flat.proofs.FaultLaws.{area_of_lem, remainder_aligned, quarters_within, third_fails}
use Rattle.list_flat.proofs.fault.Goals as goal

pub returns : goal.returns
returns c = λ e.
    let a = c.args in
    let one = neither _ _ e in
    let two = neither _ _ one.0 in
    let three = neither _ _ two.0 in
    let area = area_of_lem a.x c.size.ensures c.area-area.ensures in
    record {
      aligned = remainder_aligned a.x _ _ _ c.corner-corner.ensures c.size.ensures c.area-area.ensures (eqb-true _ _ (not-false _ three.0));
      owned = omega (arith, eqb-false c.account-2.result 0 three.1, c.account-2.ensures);
      after = let far = two.1 in omega (arith, ltb-false, c.corner-corner.ensures, c.corner-2.ensures, area);
      apart = λ k b p m e0 e1 e2 e3.
          let w = quarters_within k b p m a.x a.y a.z a.t e0 e1 e2 e3 in
          let far = third_fails _ _ _ one.1 (eq-eqb c.account.result 0 (omega (arith, c.account.ensures, w.account)))
          (eq-eqb c.size-2.result 0 (omega (arith, c.size-2.ensures, w.size))) in
          omega (arith, ltb-false, c.corner.ensures, w.corner, area, ap (λ (t : Tile). 4 ^ t.size) e0);
    }

pub area-area-requires : goal.area-area-requires
area-area-requires c = omega (arith, c.size.ensures, tile_of_size c.args.x)

pub nonzero_rem-result : goal.nonzero_rem-result
nonzero_rem-result c = omega (arith, c.area-area.ensures, area_pos c.size.result)

pub overflow_add-result : goal.overflow_add-result
overflow_add-result c = record { fits = stop_fits c.args.x _ _ _ c.ranges.x.fits c.corner-corner.ensures c.size.ensures c.area-area.ensures }
