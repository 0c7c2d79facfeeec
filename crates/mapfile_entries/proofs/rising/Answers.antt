-- The entries left decide.
use mathlib.Core.Path.{◌∙◌, ap}
use native.Mathlib.Omega.{arith}
use Rattle.mapfile_roster.specs.declared.Entry.{Entry}
use Rattle.mapfile_entries.proofs.EntriesInTurn.{rises_stop, rises_on, rises_end}
use Rattle.mapfile_entries.proofs.rising.Goals as goal

pub returns-then-account-least : goal.returns-then-account-least
returns-then-account-least c =
    let l = c.loop-entry in
    rises_stop c.args.entries.now l.entry-index l.least l.invariant c.loop-entry-test.true _ (c.from-account.ensures ∙ ap (λ (e : Entry). e.account) c.from.ensures) c.if-account-least.true

pub loop-entry-preserved : goal.loop-entry-preserved
loop-entry-preserved c =
    let l = c.loop-entry in
    rises_on c.args.entries.now l.entry-index l.least l.invariant c.loop-entry-test.true _ (c.from-account.ensures ∙ ap (λ (e : Entry). e.account) c.from.ensures) c.if-account-least.false

pub returns : goal.returns
returns c = let l = c.loop-entry in rises_end c.args.entries.now l.entry-index l.least l.invariant (omega arith)

pub overflow_add-least : goal.overflow_add-least
overflow_add-least c = omega (arith, c.from-account.ensures)
