-- The words in front are the file's, those behind are untouched.
use mathlib.Core.Path.{◌≡◌}
use mathlib.Core.List.{◌++◌, map}
use lib.ListN.{length, take, drop}
use Rattle.mapfile_bytes.specs.Items.{word_at}
use Rattle.mapfile_read.proofs.store.Given as goal

abbrev pub invariant-loop-i : goal.invariant-loop-i
invariant-loop-i l = (length l.slots ≡ length l.initial.slots) × (l.slots ≡ take l.i (map (λ w. word_at w 0) l.words) ++ drop l.i l.initial.slots)
