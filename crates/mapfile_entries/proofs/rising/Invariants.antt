-- The entries left decide.
use mathlib.Core.Path.{◌≡◌}
use mathlib.Core.List.{map}
use lib.ListN.{drop}
use Rattle.mapfile_roster.specs.Roster.{entry_in}
use Rattle.mapfile_entries.specs.Pixels.{rises}
use Rattle.mapfile_entries.proofs.rising.Given as goal

abbrev pub invariant-loop-entry : goal.invariant-loop-entry
invariant-loop-entry l = rises 0 (map entry_in l.entries) ≡ rises l.least (map entry_in (drop l.entry-index l.entries))
