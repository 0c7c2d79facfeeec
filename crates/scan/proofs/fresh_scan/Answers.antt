-- 1 alone is checked.
use Rattle.scan.specs.FreshScan.{fresh_of}
use Rattle.refusal.specs.Checks.{must, unless}
use borrow.Author.Tests.{lt-leb, le-leb}
use Rattle.scan.proofs.fresh_scan.Goals as goal

pub returns-then-order-gt-HIGHEST_ORDER : goal.returns-then-order-gt-HIGHEST_ORDER
unfolding fresh_of unless must
returns-then-order-gt-HIGHEST_ORDER c = simp (lt-leb _ _ c.if-order-gt-HIGHEST_ORDER.true)

pub returns : goal.returns
unfolding fresh_of unless must
returns c = simp (c.fresh.ensures, c.clear.ensures, le-leb _ _ c.if-order-gt-HIGHEST_ORDER.false)
