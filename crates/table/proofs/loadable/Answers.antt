-- No count, another count, other bytes lent; else the table decides.
use Rattle.std.proofs.Common.{◌∙◌}
use borrow.Author.Tests.{eq-eqb, ne_eqb}
use Rattle.refusal.specs.Checks.{must}
use Rattle.table.specs.Load.{table_length, load_check}
use Rattle.table.proofs.CallLaws.{load_check_empty}
use Rattle.table.proofs.loadable.Goals as goal

pub returns-in_default-clause-number : goal.returns-in_default-clause-number
returns-in_default-clause-number c = load_check_empty c.args.file.now c.args.lent c.in_default.ensures.cases

pub returns-then-count-ne-COUNT-clause-number : goal.returns-then-count-ne-COUNT-clause-number
unfolding load_check must
returns-then-count-ne-COUNT-clause-number c =
    rw c.in-Some.ensures.cases.0 (simp (ne_eqb c.in-Some.count.now table_length c.if-count-ne-COUNT.true))

pub returns-then-lent-ne-LENGTH-clause-number : goal.returns-then-lent-ne-LENGTH-clause-number
unfolding load_check must
returns-then-lent-ne-LENGTH-clause-number c =
    rw c.in-Some.ensures.cases.0
    (simp (eq-eqb c.in-Some.count.now table_length c.if-count-ne-COUNT.false, ne_eqb c.args.lent table_length c.if-lent-ne-LENGTH.true))

pub returns-clause-number : goal.returns-clause-number
unfolding load_check must
returns-clause-number c =
    c.checked.ensures.number
    ∙ rw c.in-Some.ensures.cases.0
    (simp (eq-eqb c.in-Some.count.now table_length c.if-count-ne-COUNT.false, eq-eqb c.args.lent table_length c.if-lent-ne-LENGTH.false))
