-- What is left after merging has no slot, or is stored in one.
use Rattle.scan_gap.proofs.GapStores.{pushed_full, pushed_store}
use Rattle.quadtree.proofs.Alignment.{area_pos}
use native.Mathlib.Omega.{arith}
use Rattle.scan_gap.proofs.Gap.push.Goals as goal

pub returns-then-at-back : goal.returns-then-at-back
returns-then-at-back c = pushed_full c.merge-top.ensures c.args.self.back (omega arith) (omega arith) c.if-at-back.true

pub returns : goal.returns
returns c =
    let merge = c.merge-top in
    let a = c.args in
    let if1 = c.if-at-back in
    let pre = c.requires in
    let d = c.area.ensures in
    let e = c.area-2.ensures in
    let p = c.word.ensures in
    pushed_store merge.ensures a.self.back (omega arith) (omega arith) if1.false pre.size_bound.1 _ (cc)

pub word-requires : goal.word-requires
word-requires c =
    let m = c.merge-top in
    (omega (arith, area_pos m.result.size), omega arith, omega arith)
