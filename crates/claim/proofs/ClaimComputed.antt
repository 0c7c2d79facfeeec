-- The worked lines of previews, computed.
use mathlib.Core.Path.{refl}
use Rattle.basics.specs.Choice.{if, some}
use Rattle.refusal.specs.Checks.{must, or_else, unless}
use Rattle.tile.specs.Tile.{word_of, tile_of}
use Rattle.tile.specs.Slots.{tiles_in, filled}
use Rattle.quadtree.specs.Raster.{aligned, uniform, paint, account_at}
use Rattle.quadtree.specs.Quadtree.{single, four, blocks, quadtree}
use Rattle.list_check.specs.ListCheck.{follows, last_of_four, ended, sound_check, word_check, words_check, list_check}
use Rattle.morton.specs.Morton.{column, row}
use Rattle.bed.specs.Places.{place_of, scanned}
use Rattle.bed.specs.Bed.{block_in, claim_check}
use Rattle.scan_check.specs.Opening.{covers_unscanned, opening}
use Rattle.claim.specs.Claim.{claim_refusal, claim_of}
use Rattle.claim.specs.Preview.{preview_of}
use Rattle.claim.specs.Worked.{PreviewLines}

pub preview_lines : PreviewLines
unfolding if some must or_else unless word_of tile_of tiles_in filled aligned uniform paint account_at single four blocks quadtree follows last_of_four ended sound_check word_check words_check list_check column row place_of scanned covers_unscanned opening block_in claim_check claim_refusal claim_of preview_of
preview_lines = record {
  release = refl;
  five = refl;
  split = refl;
  copy = record { list = refl; lent = refl };
  copy_release = refl;
  copy_split = refl;
  own = refl;
  merged = refl;
  whole = refl;
  nothing = refl;
  order_first = refl;
  count_then = refl;
  list_then = refl;
  pixels_then = refl;
  tiles_then = refl;
  halfway_block = refl;
  halfway_then = refl;
  block_then = refl;
  account_then = refl;
  halfway_given = refl;
  halfway_release = refl;
  halfway_none = refl;
  halfway_whole = refl;
  halfway_kept = refl;
  halfway_left = refl;
  rows_four = refl;
  morton_four = refl;
  slots_last = refl;
}
