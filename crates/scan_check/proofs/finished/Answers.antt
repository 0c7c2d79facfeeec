-- By whether every pixel is scanned.
use mathlib.Core.Path.{◌∙◌, sym}
use Rattle.scan_check.proofs.ScannedLaws.{finished_short, finished_whole}
use Rattle.scan_check.proofs.finished.Goals as goal

pub returns-then-whole : goal.returns-then-whole
returns-then-whole c = finished_whole c.args.scan (sym c.if-whole.true ∙ c.whole.ensures)

pub returns : goal.returns
returns c = finished_short c.args.scan (sym c.if-whole.false ∙ c.whole.ensures)
