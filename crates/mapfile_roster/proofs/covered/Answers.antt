-- The pixels summed and those of the words left make the account's.
use native.Mathlib.Omega.{arith}
use Rattle.mapfile_roster.proofs.Sums.{covered_on, covered_end}
use Rattle.mapfile_roster.proofs.covered.Goals as goal

pub loop-word-preserved : goal.loop-word-preserved
loop-word-preserved g c =
    covered_on g.W.Word.value c.args.account _ _ _ c.loop-word.invariant _ _ _ c.loop-word-test.true c.word-item.is c.number.ensures c.share-sum.ensures

pub overflow_add-sum : goal.overflow_add-sum
overflow_add-sum g c =
    omega (arith, c.requires, covered_on g.W.Word.value c.args.account _ _ _ c.loop-word.invariant _ _ _ c.loop-word-test.true c.word-item.is c.number.ensures c.share-sum.ensures)

pub returns : goal.returns
returns g c = omega (arith, covered_end g.W.Word.value c.args.account c.args.words.now c.loop-word.word-index _ c.loop-word.invariant (omega arith))
