-- The worked lines, computed.
use mathlib.Core.Path.{refl}
use Rattle.basics.specs.Choice.{if}
use Rattle.refusal.specs.Checks.{must, or_else, unless}
use Rattle.tile.specs.Tile.{tile_of}
use Rattle.quadtree.specs.Raster.{aligned}
use Rattle.list_check.specs.ListCheck.{follows, last_of_four, ended, sound_check, word_check}
use Rattle.mapfile_bytes.specs.Items.{word_at, words_at}
use Rattle.mapfile_roster.specs.Roster.{covered, listed, entry_good, entries_good, tiles_listed, roster_good}
use Rattle.mapfile_entries.specs.RosterCheck.{entries_at, entries_check, roster_check}
use Rattle.mapfile_read.specs.Reader.{tiles_check, file_check, read_of}
use Rattle.mapfile_laws.specs.Worked.{file_m}
use Rattle.mapfile_sorted.specs.Worked.{RosterLines}

pub roster_lines : RosterLines
unfolding if must or_else unless tile_of aligned follows last_of_four ended sound_check word_check word_at words_at covered listed entry_good entries_good tiles_listed roster_good entries_at entries_check roster_check tiles_check file_check read_of file_m
roster_lines = record {
  rising = refl;
  falling = refl;
  twice = refl;
  twice_behind = refl;
  twice_apart = refl;
  then_cut = refl;
  then_more = refl;
  cut = refl;
  cut_behind = refl;
  cut_count = refl;
  more = refl;
  more_falling = refl;
  nobody = refl;
  nobody_twice = refl;
  extra = refl;
  above = refl;
  highest = refl;
  highest_twice = refl;
  missing = refl;
  none = refl;
}
