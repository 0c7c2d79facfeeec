-- The numbers by which C names the kinds of scans. Definitions only.
--     kind_of x, kind_number k   0 is by rows, any other number in Morton order, which is 1
use Rattle.std.specs.Prelude.{ℕ, eqb}
use Rattle.basics.specs.Choice.{if}
use Rattle.bed.specs.declared.Kind.{Kind}
use Rattle.bed.specs.declared.Kind.TheVariants.{Rows, Morton}

unfoldable pub kind_of : ℕ → Kind
kind_of x = if (eqb x 0) Rows Morton

abbrev pub kind_number : Kind → ℕ
kind_number Rows = 0
kind_number Morton = 1
