-- The loop keeps `Looked`: what is ahead of i is clear.
use native.Mathlib.Omega.{arith}
use Rattle.list_flat.proofs.StretchLaws.{looked_start, looked_on}
use Rattle.list_flat.proofs.flat.Goals as goal

pub loop-i-init : goal.loop-i-init
loop-i-init c = (omega arith, omega arith, looked_start _ _ _)

pub loop-i-preserved : goal.loop-i-preserved
loop-i-preserved c = (omega (arith, c.stretch_end-next.ensures), omega (arith, c.stretch_end-next.ensures), looked_on _ c.loop-i.invariant.2 (c.faults.ensures c.if-faults.false))

pub returns-then-faults : goal.returns-then-faults
returns-then-faults c = (omega arith, omega arith, λ j h l. c.loop-i.invariant.2.clear j h (omega arith))

pub returns : goal.returns
returns c = (omega arith, omega arith, λ j h l. c.loop-i.invariant.2.clear j h (omega arith))
