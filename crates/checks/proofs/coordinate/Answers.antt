-- The test of 31, of one coordinate.
use native.Mathlib.Omega.{arith}
use Rattle.checks.proofs.AskedLaws.{coordinate_outside, coordinate_inside}
use Rattle.checks.proofs.coordinate.Goals as goal

pub returns-then-side-pixel : goal.returns-then-side-pixel
returns-then-side-pixel c =
    let a = c.args in
    let s = c.side-side.ensures in
    coordinate_outside a.order a.pixel (omega arith)

pub returns : goal.returns
returns c =
    let a = c.args in
    let s = c.side-side.ensures in
    coordinate_inside a.order a.pixel (omega arith)

pub side-side-requires : goal.side-side-requires
side-side-requires c = omega (arith, c.requires)
