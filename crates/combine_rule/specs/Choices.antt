-- The numbers by which C names the choices. Definitions only.
--     choice_of x    0 is inside, any other number outside
use Rattle.std.specs.Prelude.{ℕ, eqb}
use Rattle.basics.specs.Choice.{if}
use Rattle.combine_rule.specs.declared.Choice.{Choice}
use Rattle.combine_rule.specs.declared.Choice.TheVariants.{Inside, Outside}

unfoldable pub choice_of : ℕ → Choice
choice_of x = if (eqb x 0) Inside Outside
