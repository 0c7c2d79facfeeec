-- Four bytes stored one after the other: each is its part of the number.
use lib.ListN.{length-set}
use Rattle.mapfile_sections.proofs.Puts.{put_word}
use native.Mathlib.Omega.{arith}
use Rattle.mapfile_sections.proofs.put.Goals as goal

pub bounds-file-at-2 : goal.bounds-file-at-2
bounds-file-at-2 c = simp length-set (omega arith)

pub bounds-file-at-3 : goal.bounds-file-at-3
bounds-file-at-3 c = simp length-set (omega arith)

pub bounds-file-at-4 : goal.bounds-file-at-4
bounds-file-at-4 c = simp length-set (omega arith)

pub returns : goal.returns
returns c =
    let a = c.args in
    put_word a.file.now a.at a.w _ _ _ _ (omega arith) (omega arith) (omega arith) (omega arith) (omega arith)
