-- The worked lines, computed.
use mathlib.Core.Path.{refl}
use Rattle.basics.specs.Choice.{if, some}
use Rattle.refusal.specs.Checks.{must, or_else, unless}
use Rattle.morton.specs.Morton.{morton, column, row}
use Rattle.tile.specs.Tile.{tile_of}
use Rattle.tile.specs.Slots.{tiles_in}
use Rattle.quadtree.specs.Raster.{aligned, uniform, account_at}
use Rattle.list_check.specs.ListCheck.{follows, last_of_four, ended, sound_check, word_check, words_check, list_check}
use Rattle.bed.specs.Places.{place_of, scanned}
use Rattle.checks.specs.Asked.{point_in, point_check}
use Rattle.scan_check.specs.Opening.{covers_unscanned, opening}
use Rattle.scan_check.specs.Scanned.{scanned_check}
use Rattle.lookup.specs.Block.{tile_at, free_size, free_block, block_at}
use Rattle.lookup.specs.Lookup.{lookup_check, lookup_of}
use Rattle.lookup.specs.Worked.{LookupLines}

pub lookup_lines : LookupLines
unfolding if some must or_else unless morton column row tile_of tiles_in aligned uniform account_at follows last_of_four ended sound_check word_check words_check list_check place_of scanned covers_unscanned opening scanned_check point_in point_check tile_at free_size free_block block_at lookup_check lookup_of
lookup_lines = record {
  M-pixel = refl;
  M-under = refl;
  M-free = refl;
  quadrant_free = refl;
  stretch_start = refl;
  stretch_on = refl;
  between = refl;
  empty = refl;
  empty_pixel = refl;
  M-outside = refl;
  damaged = refl;
  rows_free = refl;
  rows_front = refl;
  rows_unscanned = refl;
  morton_free = refl;
  morton_front = refl;
  morton_unscanned = refl;
  rows_four = refl;
  rows_four_not = refl;
  morton_four = refl;
  morton_four_not = refl;
  none_scanned = refl;
  tile_halfway = refl;
  pixels_first = refl;
  tiles_then = refl;
  outside_then = refl;
}
