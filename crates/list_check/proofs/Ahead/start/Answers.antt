-- No tile is seen.
use mathlib.Core.Path.{refl}
use Rattle.list_check.specs.ListCheck.{ended}
use Rattle.list_check.proofs.Ahead.start.Goals as goal

pub returns : goal.returns
unfolding ended
returns c = record { stop = refl; first = refl; second = refl; third = refl; rises = tt }
