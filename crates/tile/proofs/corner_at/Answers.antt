-- A remainder is never above the number.
use mathlib.Core.Path.{ap}
use Prim.Native.Nat.{ℕ, ◌-◌, ◌%◌}
use native.Mathlib.Nat.{one-le-pow}
use native.Mathlib.Omega.{arith}
use Rattle.tile.proofs.TileLaws.{mod_le}
use Rattle.tile.proofs.corner_at.Goals as goal

pub returns : goal.returns
returns c = ap (λ (a : ℕ). c.args.z - c.args.z % a) c.area.ensures

pub nonzero_rem-result : goal.nonzero_rem-result
nonzero_rem-result c = omega (arith, c.area.ensures, one-le-pow c.args.size 4 (omega arith))

pub overflow_sub-result : goal.overflow_sub-result
overflow_sub-result c = omega (arith, mod_le c.args.z c.area.result)
