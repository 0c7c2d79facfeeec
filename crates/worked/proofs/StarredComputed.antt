-- The starred lines, computed by the checker. A bed of order 10 has too many pixels to compute, so that the line of the whole bed cites the law
-- of uniform blocks.
use mathlib.Core.Path.{refl}
use Rattle.basics.specs.Choice.{if, some, tabulate}
use Rattle.refusal.specs.Checks.{must, or_else, unless}
use Rattle.morton.specs.Morton.{morton, column, row}
use Rattle.tile.specs.Tile.{word_of, tile_of}
use Rattle.tile.specs.Slots.{tiles_in, filled}
use Rattle.quadtree.specs.Raster.{aligned, uniform, account_at, paint}
use Rattle.quadtree.specs.Quadtree.{single, four, blocks, quadtree}
use Rattle.quadtree.proofs.Blocks.{blocks_uniform}
use Rattle.list_check.specs.ListCheck.{follows, last_of_four, ended, sound_check, word_check, words_check, list_check}
use Rattle.bed.specs.Places.{place_of, pixel_at, scanned, rows}
use Rattle.bed.specs.Bed.{put_pixel, pixel_check, feed_pixels, block_in, claim_check}
use Rattle.checks.specs.Asked.{block_check}
use Rattle.list_search.specs.Count.{counted}
use Rattle.part.specs.Part.{part_check, part_of, slice_of}
use Rattle.scan.specs.FreshScan.{fresh_of}
use Rattle.scan_check.specs.Opening.{covers_unscanned, opening}
use Rattle.scan.specs.Feed.{fed_to, feed_of}
use Rattle.claim.specs.Claim.{claim_refusal, claim_of}
use Rattle.worked.specs.Table.{Starred}

pub starred : Starred
unfolding if some tabulate must or_else unless morton column row word_of tile_of tiles_in filled aligned uniform account_at paint single four blocks quadtree follows last_of_four ended sound_check word_check words_check list_check place_of pixel_at scanned rows put_pixel pixel_check feed_pixels block_in claim_check block_check counted part_check part_of slice_of fresh_of covers_unscanned opening fed_to feed_of claim_refusal claim_of
starred = record {
  M-rows = refl;
  M-tiles = refl;
  M-words = refl;
  M-six-slots = refl;
  M-five-slots = refl;
  M-five-taken = refl;
  sevens_three_slots = refl;
  sevens_two_slots = refl;
  empty_bed = refl;
  whole_bed = blocks_uniform (λ z. 63) 63 10 0 (λ z l h. refl);
  whole_word = refl;
  whole_check = refl;
  eleven_check = refl;
  M-part = refl;
  M-part-slice = refl;
  M-no-part = refl;
  M-release = refl;
  M-released = refl;
}
