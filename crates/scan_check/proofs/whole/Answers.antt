-- By the pixels of the bed.
use Rattle.scan_check.proofs.whole.Goals as goal

pub returns : goal.returns
returns c = rw c.area.ensures
