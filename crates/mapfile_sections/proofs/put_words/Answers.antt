-- The words left are still to be stored.
use mathlib.Core.Path.{refl}
use Prim.Native.Nat.{◌+◌, ◌*◌}
use native.Mathlib.Omega.{arith}
use borrow.Author.Rules.{rules}
use Rattle.mapfile_sections.proofs.Puts.{words_on, words_end}
use Rattle.mapfile_sections.proofs.put_words.Goals as goal

pub loop-i-preserved : goal.loop-i-preserved
loop-i-preserved c =
    let l = c.loop-i in
    (search rules, words_on l.file c.args.words.now l.i (5 + 4 * l.i) l.invariant.1 c.put.new.file _ _ (omega arith) refl (omega arith) c.put.ensures)

pub returns : goal.returns
returns c =
    let l = c.loop-i in
    words_end l.file c.args.words.now l.i (5 + 4 * l.i) l.invariant.1 (omega arith)
