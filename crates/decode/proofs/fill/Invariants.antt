-- The tiles in turn: those ahead of the word are filled.
use mathlib.Core.List.{map}
use lib.ListN.{drop}
use Rattle.tile.specs.Tile.{tile_of}
use Rattle.quadtree.specs.Raster.{account_at}
use Rattle.decode.proofs.FillingLaws.{Filling}
use Rattle.decode.proofs.fill.Given as goal

abbrev pub invariant-loop-word : goal.invariant-loop-word
invariant-loop-word l = Filling l.map.order (account_at (map tile_of l.map.words.now)) (map tile_of (drop l.word-index l.map.words.now)) l.raster
