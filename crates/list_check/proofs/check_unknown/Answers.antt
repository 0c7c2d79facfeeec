-- The head is known to pass, or its checks are asked.
use native.Mathlib.Omega.{arith}
use Rattle.list_check.proofs.HeadLaws.{begun_known}
use Rattle.list_check.proofs.check_unknown.Goals as goal

pub returns-then-known-ge-HEAD : goal.returns-then-known-ge-HEAD
returns-then-known-ge-HEAD c =
    let a = c.args in
    let p = c.requires in
    begun_known a.order a.words.now p.0 a.known (omega arith) p.1 p.2
