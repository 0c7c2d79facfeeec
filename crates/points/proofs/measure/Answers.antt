-- Past 1 the side and the pixels fit into 32 bits.
use Rattle.std.proofs.Common.{rules, sym, arith}
use Rattle.refusal.proofs.RefusedLaws.{unless_passed, unless_refused}
use Rattle.checks.proofs.AskedLaws.{order_passed}
use Rattle.points.specs.Points.{extent_of}
use Rattle.points.proofs.measure.Goals as goal

pub returns-in_err-order : goal.returns-in_err-order
unfolding extent_of
returns-in_err-order c = search (rules, unless_refused)

pub returns : goal.returns
unfolding extent_of
returns c = rw (c.side.ensures, c.area.ensures) (unless_passed _ _ c.in_ok-order.ensures)

pub side-requires : goal.side-requires
side-requires c = omega (arith, order_passed c.args.order (sym c.in_ok-order.ensures))

pub area-requires : goal.area-requires
area-requires c = omega (arith, order_passed c.args.order (sym c.in_ok-order.ensures))
