-- The two tests of 31.
use native.Mathlib.Omega.{arith}
use Rattle.checks.proofs.AskedLaws.{point_outside_lem, point_inside}
use Rattle.checks.proofs.point.Goals as goal

pub returns-then-side-column : goal.returns-then-side-column
returns-then-side-column c =
    let a = c.args in
    let s = c.side-side.ensures in
    point_outside_lem a.order a.point.column a.point.row (λ p. omega (arith, p.0))

pub returns-then-side-row : goal.returns-then-side-row
returns-then-side-row c =
    let a = c.args in
    let s = c.side-side.ensures in
    point_outside_lem a.order a.point.column a.point.row (λ p. omega (arith, p.1))

pub returns : goal.returns
returns c =
    let a = c.args in
    let s = c.side-side.ensures in
    point_inside a.order a.point.column a.point.row (omega arith, omega arith)

pub side-side-requires : goal.side-side-requires
side-side-requires c = omega (arith, c.requires)
