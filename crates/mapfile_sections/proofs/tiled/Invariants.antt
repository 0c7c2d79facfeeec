-- The accounts in the set and those of the words left make the whole.
use mathlib.Core.List.{map}
use lib.Dec.{ltb}
use lib.ListN.{drop}
use Rattle.tile.specs.Tile.{tile_of}
use Rattle.mapfile_roster.specs.Roster.{covered}
use Rattle.mapfile_roster.proofs.AccountsLaws.{Growing}
use Rattle.mapfile_sections.proofs.tiled.Given as goal

abbrev pub invariant-loop-word : goal.invariant-loop-word
invariant-loop-word l = Growing (λ a. ltb 0 (covered a (map tile_of l.words))) l.set (λ a. ltb 0 (covered a (map tile_of (drop l.word-index l.words))))
