-- Four accounts that are the same are one tile, or nothing; else the four pixels go one behind the other.
use Rattle.scan_block.proofs.Quads.{quad_skip, quad_put, quad_mixed}
use Rattle.scan_block.proofs.put_quad.Goals.{else-a-b-via-then-a-b+then-b-c+else-c-d, else-a-b-via-then-a-b+else-b-c, else-a-b-via-else-a-b}
use Rattle.scan_block.proofs.put_quad.Goals as goal

pub returns-then-a-eq0-clause-put : goal.returns-then-a-eq0-clause-put
returns-then-a-eq0-clause-put c =
    let pre = c.requires in
    quad_skip _ _ _ _ _ _ _ _ pre.z_bound.1 pre.fits c.if-a-b.true c.if-b-c.true c.if-c-d.true c.if-a-eq0.true

pub returns-then-c-d-clause-put : goal.returns-then-c-d-clause-put
returns-then-c-d-clause-put c =
    let pre = c.requires in
    quad_put _ _ _ _ _ _ _ _ pre.z_bound.1 pre.fits c.if-a-b.true c.if-b-c.true c.if-c-d.true _ _ c.put_same.ensures.put

pub returns-clause-put : goal.returns-clause-put
returns-clause-put c =
    let pre = c.requires in
    let first = c.put_alone-first in
    let second = c.put_alone-second in
    let third = c.put_alone-third in
    let fourth = c.put_alone in
    let p2 = rw first.ensures.back at second.ensures.put in
    let p3 = rw (second.ensures.back, first.ensures.back) at third.ensures.put in
    let p4 = rw (third.ensures.back, second.ensures.back, first.ensures.back) at fourth.ensures.put in
    quad_mixed _ _ _ _ _ _ _ _ _ _ _ _ _ _ _ _ pre.z_bound.1 pre.fits first.auto.slots second.auto.slots third.auto.slots first.ensures.put p2 p3 p4
    (λ s. elim c.else-a-b.branch [
      | else-a-b-via-then-a-b+then-b-c+else-c-d w ↦ w.if-c-d.false s.1.1
      | else-a-b-via-then-a-b+else-b-c w ↦ w.if-b-c.false s.1.0
      | else-a-b-via-else-a-b w ↦ w.if-a-b.false s.0
    ])
