-- The call's answer, with the record's numbers.
use Rattle.std.proofs.Common.{ap}
use Rattle.kingletbed.specs.Exports.{fresh_numbers}
use Rattle.kingletbed.proofs.kb_fresh.Goals as goal

pub returns : goal.returns
unfolding fresh_numbers
returns c = rw (c.fresh_answer.ensures, ← c.from-kind.ensures) (ap fresh_numbers c.fresh_scan.ensures)
