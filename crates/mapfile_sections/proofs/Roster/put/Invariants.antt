-- The entries of the accounts left are still to be stored.
use mathlib.Core.Path.{◌≡◌}
use mathlib.Core.List.{map}
use Prim.Native.Nat.{◌+◌, ◌*◌, ◌≤◌}
use lib.ListN.{length}
use lib.Seq.{sets}
use Rattle.tile.specs.Tile.{tile_of}
use Rattle.mapfile_roster.specs.Roster.{roster_of}
use Rattle.mapfile_sections.specs.Sections.{entries_bytes}
use Rattle.mapfile_sections.proofs.Passes.{roster_at}
use Rattle.mapfile_sections.proofs.Roster.put.Given as goal

abbrev pub invariant-loop-account : goal.invariant-loop-account
invariant-loop-account l = (length l.section ≡ length l.initial.section) × (l.place + 5 * length (roster_at (map tile_of l.self.words.now) l.account) ≤ length l.initial.section)
    × (sets l.initial.section 1 (entries_bytes (roster_of (map tile_of l.self.words.now))) ≡ sets l.section l.place (entries_bytes (roster_at (map tile_of l.self.words.now) l.account)))
