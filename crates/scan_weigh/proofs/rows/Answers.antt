-- So far the sum is that of the pairs ahead.
use Rattle.scan_weigh.specs.Weighed.{pair_from}
use Rattle.scan_stretch.proofs.Totals.{total_start, total_next}
use Rattle.scan_weigh.proofs.Weighing.{quads_most, pairs_most, pairs_room}
use Rattle.std.proofs.Common.{◌+◌, ◌*◌, length, arith}
use Rattle.scan_weigh.proofs.rows.Goals as goal

pub loop-j-init : goal.loop-j-init
loop-j-init c = total_start (λ j. pair_from c.args.accounts.now c.args.width c.args.quads (c.args.at + j * (2 * c.args.width)))

pub loop-j-preserved : goal.loop-j-preserved
loop-j-preserved c =
    let a = c.args in
    let l = c.loop-j in
    total_next (λ j. pair_from a.accounts.now a.width a.quads (a.at + j * (2 * a.width))) l.j l.sum c.pair-sum.result l.invariant c.pair-sum.ensures

pub overflow_add-sum : goal.overflow_add-sum
overflow_add-sum c =
    let pre = c.requires in
    let a = c.args in
    let l = c.loop-j in
    omega (arith, pairs_room l.j a.pairs a.width a.at (length a.accounts.now) (omega arith) pre.1, pairs_most a.accounts.now a.width a.quads a.at l.j pre.0, quads_most a.accounts.now a.width (a.at + l.j * (2 * a.width)) 0 a.quads)
