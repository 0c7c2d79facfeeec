-- The code's tests are the definition's, in its order.
use mathlib.Core.Path.{sym, ◌∙◌}
use native.Mathlib.Omega.{arith}
use lib.ListN.{length}
use borrow.Author.Tests.{lt-leb}
use Rattle.refusal.specs.Checks.{must}
use Rattle.mapfile_entries.specs.Pixels.{file_tiles}
use Rattle.mapfile_entries.specs.RosterCheck.{roster_check}
use Rattle.mapfile_entries.proofs.SectionLaws.{unsorted, cut, trailing, judged}
use Rattle.mapfile_entries.proofs.Tiles.check.Goals as goal

pub returns-in_default : goal.returns-in_default
unfolding roster_check must
returns-in_default c = simp (lt-leb 1 (length c.args.section.now) (omega (arith, c.in_default.ensures.cases)))

pub returns-then-not-rising : goal.returns-then-not-rising
returns-then-not-rising c =
    rw c.in-Some.ensures.cases.0
    (unsorted (file_tiles c.args.self.now.words.now) c.in-Some.count.now _ _ c.in-Some.entries.now _ c.as_chunks.ensures.front_len c.as_chunks.ensures.front c.min.ensures
    (sym c.rising.ensures ∙ c.if-not-rising.true))

pub returns-then-whole-count : goal.returns-then-whole-count
returns-then-whole-count c =
    rw c.in-Some.ensures.cases.0
    (cut (file_tiles c.args.self.now.words.now) c.in-Some.count.now _ _ c.in-Some.entries.now _ c.as_chunks.ensures.front_len c.as_chunks.ensures.front c.min.ensures
    (sym c.rising.ensures ∙ c.if-not-rising.false) c.if-whole-count.true)

pub returns-then-count-entries : goal.returns-then-count-entries
returns-then-count-entries c =
    rw c.in-Some.ensures.cases.0
    (trailing (file_tiles c.args.self.now.words.now) c.in-Some.count.now _ _ c.in-Some.entries.now _ c.as_chunks.ensures.front_len c.as_chunks.ensures.front c.min.ensures
    (sym c.rising.ensures ∙ c.if-not-rising.false) c.if-whole-count.false c.if-count-entries.true)

pub returns-then-not-listed_by : goal.returns-then-not-listed_by
unfolding must
returns-then-not-listed_by c =
    rw c.in-Some.ensures.cases.0
    (sym (judged (file_tiles c.args.self.now.words.now) c.in-Some.count.now _ _ c.in-Some.entries.now _ c.as_chunks.ensures.front_len c.as_chunks.ensures.front c.min.ensures
    (sym c.rising.ensures ∙ c.if-not-rising.false) c.if-whole-count.false c.if-count-entries.false ∙ rw (← c.listed_by.ensures, c.if-not-listed_by.true)))

pub returns : goal.returns
unfolding must
returns c =
    rw c.in-Some.ensures.cases.0
    (sym (judged (file_tiles c.args.self.now.words.now) c.in-Some.count.now _ _ c.in-Some.entries.now _ c.as_chunks.ensures.front_len c.as_chunks.ensures.front c.min.ensures
    (sym c.rising.ensures ∙ c.if-not-rising.false) c.if-whole-count.false c.if-count-entries.false ∙ rw (← c.listed_by.ensures, c.if-not-listed_by.false)))
