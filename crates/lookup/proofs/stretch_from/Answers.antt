-- The tile ahead of the place, where one is.
use mathlib.Core.Path.{◌∙◌}
use native.Mathlib.Omega.{arith}
use Rattle.lookup.proofs.StretchLaws.{from_first, from_behind}
use Rattle.lookup.proofs.stretch_from.Goals as goal

pub returns-then-place-eq0 : goal.returns-then-place-eq0
returns-then-place-eq0 c = let a = c.args in from_first a.words.now a.place c.if-place-eq0.true

pub returns : goal.returns
returns c =
    let a = c.args in
    c.stop.ensures ∙ from_behind a.words.now a.place (omega (arith, c.if-place-eq0.false))
