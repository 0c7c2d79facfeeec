-- The call's answer, with the record's numbers.
use Rattle.std.proofs.Common.{ap}
use Rattle.kingletbed.specs.Exports.{fed_numbers}
use Rattle.kingletbed.proofs.kb_feed.Goals as goal

pub returns : goal.returns
unfolding fed_numbers
returns c = rw (c.from.ensures, ← c.scan_of-scan.ensures) (ap fed_numbers c.feed.ensures)
