-- The test of 1.
use native.Mathlib.Omega.{arith}
use borrow.Author.Tests.{lt-leb, le-leb}
use Rattle.refusal.specs.Checks.{must}
use Rattle.tile.specs.Tile.{highest_order}
use Rattle.checks.specs.Asked.{order_check}
use Rattle.checks.proofs.order.Goals as goal

pub returns-then-order-gt-HIGHEST_ORDER : goal.returns-then-order-gt-HIGHEST_ORDER
unfolding order_check must
returns-then-order-gt-HIGHEST_ORDER c = simp (lt-leb c.args.order highest_order (omega (arith, c.if-order-gt-HIGHEST_ORDER.true)))

pub returns : goal.returns
unfolding order_check must
returns c = simp (le-leb c.args.order highest_order (omega (arith, c.if-order-gt-HIGHEST_ORDER.false)))
