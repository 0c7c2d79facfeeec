-- The worked lines of the files that lists of calls write, computed.
use mathlib.Core.Path.{refl}
use Rattle.basics.specs.Choice.{if, some}
use Rattle.refusal.specs.Checks.{must, or_else, unless}
use Rattle.morton.specs.Morton.{morton, column, row}
use Rattle.tile.specs.Tile.{word_of, tile_of}
use Rattle.tile.specs.Slots.{tiles_in, filled}
use Rattle.quadtree.specs.Raster.{aligned, uniform, account_at, paint}
use Rattle.quadtree.specs.Quadtree.{single, four, blocks, quadtree}
use Rattle.list_check.specs.ListCheck.{follows, last_of_four, ended, sound_check, word_check, words_check, list_check}
use Rattle.bed.specs.Places.{place_of, pixel_at, scanned}
use Rattle.bed.specs.Bed.{put_pixel, pixel_check, feed_pixels, block_in, claim_check}
use Rattle.scan_check.specs.Opening.{covers_unscanned, opening}
use Rattle.scan_check.specs.Scanned.{finished_check}
use Rattle.scan.specs.FreshScan.{fresh_of}
use Rattle.scan.specs.Feed.{fed_to, feed_of}
use Rattle.claim.specs.Claim.{claim_refusal, claim_of}
use Rattle.mapfile_bytes.specs.Items.{word_at, words_at}
use Rattle.mapfile_roster.specs.Roster.{covered, roster_from, listed, entry_good, entries_good, tiles_listed, roster_good}
use Rattle.mapfile_entries.specs.RosterCheck.{entries_at, entries_check, roster_check}
use Rattle.mapfile_read.specs.Reader.{tiles_check, file_check, read_of}
use Rattle.mapfile_sections.specs.Sections.{words_bytes, entries_bytes}
use Rattle.mapfile_write.specs.Writer.{file_of, ready_check, write_check, write_of}
use Rattle.mapfile_laws.specs.Worked.{file_m}
use Rattle.demands.specs.Calls.{after_fresh, after_feed, after_claim, after_read, step, left}
use Rattle.demands_files.specs.Worked.{FileLines}

pub file_lines : FileLines
unfolding if some must or_else unless morton column row word_of tile_of tiles_in filled aligned uniform account_at paint single four blocks quadtree follows last_of_four ended sound_check word_check words_check list_check place_of pixel_at scanned put_pixel pixel_check feed_pixels block_in claim_check covers_unscanned opening finished_check fresh_of fed_to feed_of claim_refusal claim_of word_at words_at covered roster_from listed entry_good entries_good tiles_listed roster_good entries_at entries_check roster_check tiles_check file_check read_of words_bytes entries_bytes file_of ready_check write_check write_of file_m after_fresh after_feed after_claim after_read step left
file_lines = record {
  by_rows = refl;
  by_morton = refl;
  by_claims = refl;
  by_release = refl;
  by_reading = refl;
  one_more = refl;
  unfinished = refl;
}
