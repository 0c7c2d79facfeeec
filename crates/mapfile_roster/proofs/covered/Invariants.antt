-- The pixels summed and those of the words left make the account's.
use mathlib.Core.Path.{◌≡◌}
use mathlib.Core.List.{map}
use Prim.Native.Nat.{◌+◌}
use lib.ListN.{drop}
use Rattle.tile.specs.Tile.{tile_of}
use Rattle.mapfile_roster.specs.Roster.{covered}
use Rattle.mapfile_roster.proofs.covered.Given as goal

abbrev pub invariant-loop-word : goal.invariant-loop-word
invariant-loop-word g l = l.sum + covered l.account (map tile_of (map (g.W.Word.value) (drop l.word-index l.words))) ≡ covered l.account (map tile_of (map (g.W.Word.value) l.words))
