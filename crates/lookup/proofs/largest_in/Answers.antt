-- What lies behind the stretch and what lies ahead of it, whichever leaves less room.
use native.Mathlib.Omega.{arith}
use Rattle.lookup.proofs.StretchLaws.{largest_first, largest_least}
use Rattle.lookup.proofs.largest_in.Goals as goal

pub returns-then-from-eq0 : goal.returns-then-from-eq0
returns-then-from-eq0 c = largest_first c.size_without-behind.ensures c.requires.1 c.if-from-eq0.true

pub returns : goal.returns
returns c =
    let p = c.requires in
    largest_least c.size_without-behind.ensures p.1 (omega (arith, c.if-from-eq0.false)) c.size_without.ensures p.0 (omega (arith, c.min.ensures))
