-- Each test is one of the three facts.
use mathlib.Core.Path.{ap}
use native.Mathlib.Omega.{arith}
use Rattle.basics.proofs.Tests.{fails, test_leb, test_map}
use Rattle.tile.specs.declared.Tile.{Tile}
use Rattle.claim_plan.proofs.covered.Goals as goal

pub returns-then-list-lo : goal.returns-then-list-lo
returns-then-list-lo c = fails (λ o. omega (arith, o.some))

pub returns-then-size-block : goal.returns-then-size-block
returns-then-size-block c = fails (λ o. omega (arith, o.larger, ap (λ (t : Tile). t.size) c.from-corner.ensures))

pub returns : goal.returns
returns c =
    let size = ap (λ (t : Tile). t.size) c.from-corner.ensures in
    let corner = ap (λ (t : Tile). t.corner) c.from-corner.ensures in
    test_map (λ h. record { some = omega arith; larger = omega arith; from = omega arith }) (λ o. omega (arith, o.from)) (test_leb _ _)
