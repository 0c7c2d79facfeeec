-- All three tests passed: the accounts are the same. One of them failed: they are not.
use Rattle.std.proofs.Common.{get_or}
use Rattle.scan_stretch.proofs.Quads.{weight_same, weight_mixed}
use Rattle.scan_weigh.proofs.weigh.Goals.{else-a-b-via-then-a-b+then-b-c+else-c-d, else-a-b-via-then-a-b+else-b-c, else-a-b-via-else-a-b}
use Rattle.scan_weigh.proofs.weigh.Goals as goal

pub returns-then-c-d : goal.returns-then-c-d
returns-then-c-d c =
    let q = c.args.quad in
    rw (c.somebody.ensures.value, c.somebody-then-c-d.ensures.value) (weight_same (get_or q 0 0) (get_or q 1 0) (get_or q 2 0) (get_or q 3 0) c.if-a-b.true c.if-b-c.true c.if-c-d.true)

pub returns : goal.returns
returns c =
    let q = c.args.quad in
    rw (c.somebody-2.ensures.value, c.somebody-3.ensures.value, c.somebody-4.ensures.value, c.somebody-5.ensures.value) (weight_mixed (get_or q 0 0) (get_or q 1 0) (get_or q 2 0) (get_or q 3 0) (λ s. elim c.else-a-b.branch [
      | else-a-b-via-then-a-b+then-b-c+else-c-d w ↦ w.if-c-d.false s.1.1
      | else-a-b-via-then-a-b+else-b-c w ↦ w.if-b-c.false s.1.0
      | else-a-b-via-else-a-b w ↦ w.if-a-b.false s.0
    ]))
