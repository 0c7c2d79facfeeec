-- The logarithm says how many digits the number has.
use native.Mathlib.Omega.{arith}
use Rattle.mils.proofs.MilsLaws.{places_of}
use Rattle.mils.proofs.places.Goals as goal

pub returns : goal.returns
returns c =
    let e = c.ilog10.ensures in
    places_of c.ilog10.result c.max.result c.args.n (omega (arith, c.max.ensures)) e.power_le e.next_power_gt c.requires
