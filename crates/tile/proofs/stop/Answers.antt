-- The corner and the area, whose sum fits: the one is below 2 ^ 22, the other at most 4 ^ 15.
use mathlib.Core.Path.{ap}
use Prim.Native.Nat.{ℕ, ◌^◌}
use native.Mathlib.Omega.{arith}
use Rattle.tile.proofs.TileLaws.{tile_of_size}
use Rattle.tile.proofs.Bits.{stop_fits}
use Rattle.tile.proofs.stop.Goals as goal

pub returns : goal.returns
returns c = omega (arith, c.corner.ensures, c.area.ensures, ap (λ (k : ℕ). 4 ^ k) c.size.ensures)

pub area-requires : goal.area-requires
area-requires c = omega (arith, c.size.ensures, tile_of_size c.args.w)

pub overflow_add-result : goal.overflow_add-result
overflow_add-result c =
    let a = c.args in
    let fits' = c.ranges in
    record { fits = stop_fits a.w _ _ _ fits'.w.fits c.corner.ensures c.size.ensures c.area.ensures }
