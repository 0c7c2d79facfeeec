-- The loop keeps `Going`: what is ahead is known, with its pixels, and the words from the next on decide.
use Rattle.mapfile_read.proofs.WordsInTurn.{Going}
use Rattle.mapfile_read.proofs.tiles.Given as goal

abbrev pub invariant-loop-word : goal.invariant-loop-word
invariant-loop-word l = Going l.order l.count l.file l.word-index l.ahead l.area
