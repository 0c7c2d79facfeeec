-- The lines of the tiles ahead are put, at most `triple_most` bytes for each.
use Rattle.std.proofs.Common.{◌+◌, ◌*◌, ◌≤◌}
use Rattle.tile.specs.Slots.{tiles_in}
use Rattle.text.specs.Puts.{Puts}
use Rattle.decimal.specs.Lines.{triple_most}
use Rattle.listing.specs.Listing.{tile_lines}
use Rattle.listing.proofs.put_tiles.Given as goal

abbrev pub invariant-loop-word : goal.invariant-loop-word
invariant-loop-word l = record {
  lines : Puts (tile_lines (tiles_in l.word-index l.words)) l.initial.writer l.writer;
  room : l.writer.at ≤ l.initial.writer.at + triple_most * l.word-index;
}
