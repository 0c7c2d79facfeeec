-- 55 for the length, 55 for a byte, then 56.
use Rattle.std.proofs.Common.{sym, ◌∙◌, length}
use borrow.Author.Tests.{eq-eqb, ne_eqb}
use Rattle.refusal.specs.Checks.{must}
use Rattle.table.specs.Load.{table_length, table_check}
use Rattle.table.proofs.checked.Goals as goal

pub returns-in_default-clause-number : goal.returns-in_default-clause-number
unfolding table_check must
returns-in_default-clause-number c = simp (ne_eqb (length c.args.bytes.now) table_length c.in_default.ensures.cases)

pub returns-then-not-bits_only-clause-number : goal.returns-then-not-bits_only-clause-number
unfolding table_check must
returns-then-not-bits_only-clause-number c =
    let s = c.in-Some.ensures.cases in
    simp (eq-eqb (length c.args.bytes.now) table_length s.long, rw s.same at (sym c.bits_only.ensures ∙ c.if-not-bits_only.true))

pub returns-then-not-is_sound-clause-number : goal.returns-then-not-is_sound-clause-number
unfolding table_check must
returns-then-not-is_sound-clause-number c =
    let s = c.in-Some.ensures.cases in
    simp (
      eq-eqb (length c.args.bytes.now) table_length s.long,
      rw s.same at (sym c.bits_only.ensures ∙ c.if-not-bits_only.false),
      rw s.same at (sym c.is_sound.ensures ∙ c.if-not-is_sound.true),
    )

pub returns-clause-number : goal.returns-clause-number
unfolding table_check must
returns-clause-number c =
    let s = c.in-Some.ensures.cases in
    simp (
      eq-eqb (length c.args.bytes.now) table_length s.long,
      rw s.same at (sym c.bits_only.ensures ∙ c.if-not-bits_only.false),
      rw s.same at (sym c.is_sound.ensures ∙ c.if-not-is_sound.false),
    )
