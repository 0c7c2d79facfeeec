-- The three parts, each put behind the one before; or the last alone.
use Rattle.std.proofs.Common.{arith, length}
use Rattle.tile.specs.Slots.{tiles_in}
use Rattle.tile.proofs.SlotsLaws.{length_tiles_in}
use Rattle.text.proofs.PutAtLaws.{puts_then}
use Rattle.decimal.specs.Lines.{triple_most}
use Rattle.decimal.proofs.LinesLaws.{pair_line_most}
use Rattle.listing.specs.Listing.{bed_word, tiles_word, bed_line}
use Rattle.listing.proofs.LineLaws.{tile_line_most, tile_lines_most}
use Rattle.listing.proofs.Listing.put.Goals as goal

pub returns-in-Some : goal.returns-in-Some
unfolding bed_line
returns-in-Some c =
    let w = puts_then c.put_pair.ensures (puts_then c.put_tiles.ensures c.put_stop.ensures) in
    rw c.in-Some.is (rw c.in-Some.is at w)

pub put_tiles-requires : goal.put_tiles-requires
put_tiles-requires c =
    let b = c.in-Some.field-0 in
    let q = rw c.in-Some.is at c.requires.1 in
    let p = rw c.in-Some.is at c.put_pair.ensures.put.stop in
    rw c.in-Some.is (omega (arith, c.requires.0, q, p, pair_line_most bed_word b.order tiles_word (length b.words.now)))

pub put_stop-requires : goal.put_stop-requires
put_stop-requires c =
    let b = c.in-Some.field-0 in
    let q = rw c.in-Some.is at c.requires.1 in
    let p = rw c.in-Some.is at c.put_pair.ensures.put.stop in
    let s = rw c.in-Some.is at c.put_tiles.ensures.put.stop in
    omega (
      arith,
      c.requires.0,
      q,
      p,
      s,
      pair_line_most bed_word b.order tiles_word (length b.words.now),
      tile_lines_most triple_most (tiles_in (length b.words.now) b.words.now) (λ t i. tile_line_most t),
      length_tiles_in (length b.words.now) b.words.now (omega arith),
    )
