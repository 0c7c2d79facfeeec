-- The code's test is the comparison of the places, row first: `compared`.
use native.Mathlib.Omega.{arith}
use lib.Dec.{leb, ltb, eqb}
use borrow.Author.Tests.{ltb-true, ltb-false, leb-true, leb-false, eqb-true, eqb-false}
use Rattle.bed.specs.declared.Kind.TheVariants.{Rows}
use Rattle.bed.specs.Places.{place_of}
use Rattle.scan_check.proofs.ByRows.{compared, row_first}
use Rattle.scan_check.proofs.behind.Goals as goal

pub returns : goal.returns
returns c = λ n s st l.
    let f = compared n s _ _ c.args.z _ _ st l c.row_bits-down.ensures c.column_bits.ensures in
    row_first (ltb c.args.row c.row_bits-down.result) (eqb c.args.row c.row_bits-down.result) (leb c.args.column c.column_bits.result) s (place_of Rows n c.args.z)
    (λ e. f.further (omega (arith, ltb-true)))
    (λ e g. f.level (omega (arith, eqb-true)) (omega (arith, leb-true)))
    (λ e g. f.nearer (omega (arith, eqb-false, ltb-false)))
    (λ e g. f.west (omega (arith, eqb-true)) (omega (arith, leb-false)))
