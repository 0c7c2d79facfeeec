-- So far the sum is that of the quads from the first on.
use Rattle.scan_weigh.specs.Weighed.{quad_from}
use Rattle.scan_stretch.proofs.Totals.{total_none, total_more}
use Rattle.scan_weigh.proofs.Weighing.{quad_most, quads_most}
use Rattle.std.proofs.Common.{◌+◌, ◌-◌, ◌*◌, arith}
use Rattle.scan_weigh.proofs.few.Goals as goal

pub loop-j-init : goal.loop-j-init
loop-j-init c = total_none (λ i. quad_from c.args.accounts.now c.args.width (c.args.at + 2 * i)) c.args.from

pub loop-j-preserved : goal.loop-j-preserved
loop-j-preserved c =
    let args = c.args in
    let loop = c.loop-j in
    total_more (λ i. quad_from args.accounts.now args.width (args.at + 2 * i)) args.from loop.j loop.sum _ loop.auto.j loop.invariant c.quad-sum.ensures

pub overflow_add-sum : goal.overflow_add-sum
overflow_add-sum c =
    let args = c.args in
    let loop = c.loop-j in
    omega (arith, quads_most args.accounts.now args.width args.at args.from (loop.j - args.from), quad_most args.accounts.now args.width (args.at + 2 * loop.j))
