-- The worked lines, computed.
use mathlib.Core.Path.{refl}
use Rattle.basics.specs.Choice.{if, some, tabulate}
use Rattle.refusal.specs.Checks.{must, or_else, unless}
use Rattle.morton.specs.Morton.{morton, column, row}
use Rattle.tile.specs.Tile.{word_of, tile_of}
use Rattle.tile.specs.Slots.{tiles_in}
use Rattle.quadtree.specs.Raster.{aligned, account_at}
use Rattle.list_check.specs.ListCheck.{follows, last_of_four, ended, sound_check, word_check, words_check, list_check}
use Rattle.bed.specs.Places.{place_of, pixel_at, scanned, rows}
use Rattle.scan_check.specs.Opening.{covers_unscanned, opening}
use Rattle.scan_check.specs.Scanned.{finished_check}
use Rattle.decode.specs.Decode.{decode_check, decode_of}
use Rattle.mapfile_bytes.specs.Items.{word_at, words_at}
use Rattle.mapfile_roster.specs.Roster.{covered, roster_from, listed, entry_good, entries_good, tiles_listed, roster_good}
use Rattle.mapfile_entries.specs.RosterCheck.{entries_at, entries_check, roster_check}
use Rattle.mapfile_read.specs.Reader.{tiles_check, file_check, read_of}
use Rattle.mapfile_sections.specs.Sections.{words_bytes, entries_bytes}
use Rattle.mapfile_write.specs.Writer.{file_of, ready_check, write_check, write_of}
use Rattle.mapfile_laws.specs.Totals.{occurs}
use Rattle.mapfile_laws.specs.Worked.{file_m, TotalLines}

pub total_lines : TotalLines
unfolding if some tabulate must or_else unless morton column row word_of tile_of tiles_in aligned account_at follows last_of_four ended sound_check word_check words_check list_check place_of pixel_at scanned rows covers_unscanned opening finished_check decode_check decode_of word_at words_at tiles_check file_check read_of covered roster_from listed entry_good entries_good tiles_listed roster_good entries_at entries_check roster_check words_bytes entries_bytes file_of ready_check write_check write_of occurs file_m
total_lines = record {
  M-decoded = refl;
  M-written = refl;
  M-morton = refl;
  M-short = refl;
  none_scanned = refl;
  M-read = refl;
  M-tiles-5 = refl;
  M-rows-5 = refl;
  M-tiles-9 = refl;
  M-rows-9 = refl;
  M-entries = refl;
  M-tiles-for-pixels = refl;
  M-one-more = refl;
  M-tiles-0 = refl;
  M-rows-0 = refl;
  empty_written = refl;
  whole_bed = refl;
}
