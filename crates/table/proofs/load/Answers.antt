-- Refused, the table is as it was; else it is the bytes behind the count.
use Rattle.std.proofs.Common.{rules, ◌∙◌, ap, List, ℕ}
use Rattle.refusal.specs.Refusal.{accepted}
use Rattle.refusal.proofs.RefusedLaws.{unless_passed, unless_refused}
use Rattle.table.specs.Load.{load_of}
use Rattle.table.proofs.load.Goals as goal

pub returns-in_err-bytes : goal.returns-in_err-bytes
unfolding load_of
returns-in_err-bytes c = search (rules, unless_refused)

pub returns : goal.returns
unfolding load_of
returns c =
    let e = c.in_ok-bytes.ensures in
    ap (λ (t : List ℕ). record { answer = accepted; storage = t }) (c.copy_from_slice.ensures.after ∙ e.table.0) ∙ unless_passed _ _ e.number
