-- The worked lines, computed.
use mathlib.Core.Path.{refl}
use Rattle.basics.specs.Choice.{if, some}
use Rattle.refusal.specs.Checks.{must, or_else, unless}
use Rattle.tile.specs.Tile.{word_of, tile_of}
use Rattle.tile.specs.Slots.{tiles_in}
use Rattle.quadtree.specs.Raster.{aligned}
use Rattle.list_check.specs.ListCheck.{follows, last_of_four, ended, sound_check, word_check, words_check, list_check}
use Rattle.scan_check.specs.Opening.{covers_unscanned, opening}
use Rattle.scan_check.specs.Scanned.{finished_check}
use Rattle.mapfile_bytes.specs.Items.{word_at, words_at}
use Rattle.mapfile_roster.specs.Roster.{covered, roster_from, listed, entry_good, entries_good, tiles_listed, roster_good}
use Rattle.mapfile_entries.specs.RosterCheck.{entries_at, entries_check, roster_check}
use Rattle.mapfile_read.specs.Reader.{tiles_check, file_check, read_of}
use Rattle.mapfile_sections.specs.Sections.{words_bytes, entries_bytes}
use Rattle.mapfile_write.specs.Writer.{file_of, ready_check, write_check, write_of}
use Rattle.mapfile_laws.specs.Worked.{file_m}
use Rattle.mapfile_same.specs.Worked.{SameLines}

pub same_lines : SameLines
unfolding if some must or_else unless word_of tile_of tiles_in aligned follows last_of_four ended sound_check word_check words_check list_check covers_unscanned opening finished_check word_at words_at covered roster_from listed entry_good entries_good tiles_listed roster_good entries_at entries_check roster_check tiles_check file_check read_of words_bytes entries_bytes file_of ready_check write_check write_of file_m
same_lines = record { M = refl; M-larger = refl; smallest = refl; largest = refl; M-more = refl; M-exchanged = refl; no_bytes = refl }
