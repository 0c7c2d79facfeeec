-- An account without pixels stores nothing, one with pixels its entry.
use lib.ListN.{length-set}
use Rattle.mapfile_sections.proofs.Passes.{entry_of_length, entry_none, entry_one}
use native.Mathlib.Omega.{arith}
use Rattle.mapfile_sections.proofs.put_entry.Goals as goal

pub returns-then-pixels-eq0 : goal.returns-then-pixels-eq0
returns-then-pixels-eq0 c =
    let a = c.args in
    let none = entry_none a.file.now a.p a.entry.account a.entry.pixels c.if-pixels-eq0.true in
    record { next = none.0; stored = none.1 }

pub bounds-file-p : goal.bounds-file-p
bounds-file-p c = omega (arith, c.requires, entry_of_length c.args.entry.account c.args.entry.pixels c.if-pixels-eq0.false)

pub put-requires : goal.put-requires
put-requires c =
    let a = c.args in
    let p = c.requires in
    omega (arith, p, entry_of_length a.entry.account a.entry.pixels c.if-pixels-eq0.false, length-set a.file.now a.p a.entry.account)

pub shape_of-file : goal.shape_of-file
shape_of-file c =
    let a = c.args in
    omega (arith, length-set a.file.now a.p a.entry.account)

pub returns : goal.returns
returns c =
    let a = c.args in
    let one = entry_one a.file.now a.p a.entry.account a.entry.pixels c.if-pixels-eq0.false c.put.ensures in
    record { next = one.0; stored = one.1 }
