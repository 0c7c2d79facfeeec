-- So far the sum is that of the quads ahead, stretch by stretch.
use Rattle.scan_weigh.specs.Weighed.{quad_from}
use Rattle.scan_stretch.proofs.Totals.{total_none, total_join}
use Rattle.scan_weigh.proofs.Weighing.{quads_most}
use mathlib.Core.Path.{◌≡◌}
use Prim.Native.Nat.{◌+◌, ◌-◌, ◌*◌}
use native.Mathlib.Omega.{arith}
use Rattle.scan_weigh.proofs.pair.Goals as goal

pub returns : goal.returns
returns c = let e : c.args.quads ≡ c.loop-j.j - 0 = omega arith in rw e c.loop-j.invariant.1

pub loop-j-init : goal.loop-j-init
loop-j-init c = (omega arith, total_none (λ i. quad_from c.args.accounts.now c.args.width (c.args.at + 2 * i)) 0)

pub loop-j-preserved : goal.loop-j-preserved
loop-j-preserved c =
    let args = c.args in
    let loop = c.loop-j in
    let end = c.min-end.result in
    (omega arith, total_join (λ i. quad_from args.accounts.now args.width (args.at + 2 * i)) 0 loop.j end loop.sum c.few.result (omega arith) (omega arith) loop.invariant.1 c.few.ensures)

pub overflow_add-sum : goal.overflow_add-sum
overflow_add-sum c =
    let args = c.args in
    let loop = c.loop-j in
    omega (arith, quads_most args.accounts.now args.width args.at 0 (loop.j - 0), quads_most args.accounts.now args.width args.at loop.j (c.min-end.result - loop.j))
