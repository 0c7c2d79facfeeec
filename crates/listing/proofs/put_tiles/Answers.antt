-- The lines of the tiles ahead are put, at most `triple_most` bytes for each.
use Rattle.std.proofs.Common.{◌≡◌, arith, length, get_or}
use Rattle.tile.specs.Tile.{tile_of}
use Rattle.listing.proofs.LineLaws.{tile_line_most, lines_none, lines_next}
use Rattle.listing.proofs.put_tiles.Goals as goal

pub loop-word-init : goal.loop-word-init
loop-word-init c = record { lines = lines_none c.args.words.now c.args.writer.now; room = omega arith }

pub loop-word-preserved : goal.loop-word-preserved
loop-word-preserved c =
    let l = c.loop-word in
    let ws = c.args.words.now in
    let v = rw c.from.ensures at c.put_tile.ensures in
    record {
      lines = lines_next ws l.word-index (omega arith) l.invariant.lines v;
      room = omega (arith, v.put.stop, l.invariant.room, tile_line_most (tile_of (get_or ws l.word-index 0)));
    }

pub returns : goal.returns
returns c = let e : c.loop-word.word-index ≡ length c.args.words.now = omega arith in rw e at c.loop-word.invariant.lines

pub put_tile-requires : goal.put_tile-requires
put_tile-requires c = omega (arith, c.loop-word.invariant.room)
