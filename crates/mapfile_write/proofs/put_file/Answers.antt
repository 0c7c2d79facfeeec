-- The parts of the file stored in turn; the roster into the part behind the tiles.
use native.Mathlib.Omega.{arith}
use lib.ListN.{length-set}
use Rattle.list_check.proofs.TreeLaws.{tree_order}
use Rattle.mapfile_write.proofs.WriterLaws.{words_few, file_of_put}
use Rattle.mapfile_write.proofs.put_file.Goals as goal

pub returns : goal.returns
returns c =
    let tree = c.args.tree in
    file_of_put tree.order tree.words.now c.args.file.now (omega (arith, length-set c.args.file.now 0 tree.order)) c.requires.room c.put.ensures c.put_words.ensures (rw c.requires.same at c.put-2.ensures)

pub overflow_cast-file : goal.overflow_cast-file
overflow_cast-file c = omega (arith, tree_order _ _ c.args.tree.passes)

pub overflow_cast-words : goal.overflow_cast-words
overflow_cast-words c = omega (arith, words_few _ _ c.args.tree.passes)
