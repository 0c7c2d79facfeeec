-- A refusal leaves before any store; the list of an opened scan is checked, so that its length fits and its file is the definition's.
use mathlib.Core.Path.{sym}
use native.Mathlib.Omega.{arith}
use Rattle.std.proofs.Common.{rules}
use Rattle.refusal.proofs.RefusedLaws.{else_refused, unless_refused}
use Rattle.list_check.proofs.TreeLaws.{tree_tiles}
use Rattle.tile.specs.Slots.{tiles}
use Rattle.mapfile_roster.proofs.RosterLaws.{roster_of_few}
use Rattle.mapfile_write.specs.Writer.{write_check, write_of}
use Rattle.mapfile_write.proofs.WriterLaws.{words_few, words_fit, words_size, write_of_short, write_of_put}
use Rattle.mapfile_write.proofs.write.Goals as goal

pub returns-in_err-tree : goal.returns-in_err-tree
unfolding write_check write_of
returns-in_err-tree c = search (rules, else_refused, unless_refused)

pub returns-then-file-length : goal.returns-then-file-length
returns-then-file-length c =
    let tree = c.in_ok-tree.ensures.tree in
    write_of_short _ _ _ (sym c.in_ok-tree.ensures.number) (omega (arith, words_size c.args.scan.order c.args.scan.tiles c.args.slots.now c.in_ok-tree.tree.words.now c.len.result tree.1 (rw c.of-roster.ensures at c.len.ensures)))

pub returns : goal.returns
returns c =
    let tree = c.in_ok-tree.ensures.tree in
    write_of_put _ _ _ (sym c.in_ok-tree.ensures.number) _ (words_size c.args.scan.order c.args.scan.tiles c.args.slots.now c.in_ok-tree.tree.words.now c.len.result tree.1 (rw c.of-roster.ensures at c.len.ensures)) (omega arith)
    (rw (← tree.0, tree_tiles _ _ tree.1) c.put_file.ensures)

pub of-roster-requires : goal.of-roster-requires
of-roster-requires c = words_fit _ _ c.in_ok-tree.tree.passes

pub overflow_mul-length-2 : goal.overflow_mul-length-2
overflow_mul-length-2 c = omega (arith, c.len.ensures, roster_of_few (tiles c.of-roster.result.words.now))

pub overflow_add-length-2 : goal.overflow_add-length-2
overflow_add-length-2 c = omega (arith, c.len.ensures, roster_of_few (tiles c.of-roster.result.words.now), words_few _ _ c.in_ok-tree.tree.passes)
