-- Every pixel, or by the test of the block.
use mathlib.Core.Path.{◌∙◌, sym}
use Rattle.scan_check.proofs.ScannedLaws.{whole_block, block_unscanned, block_scanned}
use Rattle.scan_check.proofs.block_scanned.Goals as goal

pub returns-then-whole : goal.returns-then-whole
returns-then-whole c =
    let s = c in
    whole_block s.args.scan (sym c.if-whole.true ∙ c.whole.ensures) s.args.block.corner s.args.block.size s.requires.1 s.requires.2 s.requires.3

pub returns-then-unscanned_in : goal.returns-then-unscanned_in
returns-then-unscanned_in c =
    let a = c.args in
    block_unscanned a.scan a.block.corner a.block.size (sym c.if-unscanned_in.true ∙ c.unscanned_in.ensures)

pub returns : goal.returns
returns c =
    let a = c.args in
    block_scanned a.scan a.block.corner a.block.size (sym c.if-unscanned_in.false ∙ c.unscanned_in.ensures)
