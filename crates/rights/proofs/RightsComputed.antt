-- The worked lines of rights, computed.
use mathlib.Core.Path.{refl}
use Rattle.basics.specs.Choice.{if, some}
use Rattle.refusal.specs.Checks.{must, or_else, unless}
use Rattle.morton.specs.Morton.{morton, column, row}
use Rattle.tile.specs.Tile.{tile_of}
use Rattle.tile.specs.Slots.{tiles_in}
use Rattle.quadtree.specs.Raster.{aligned, account_at}
use Rattle.list_check.specs.ListCheck.{follows, last_of_four, ended, sound_check, word_check, words_check, list_check}
use Rattle.bed.specs.Places.{place_of, scanned}
use Rattle.checks.specs.Asked.{point_in, point_check, asker_check}
use Rattle.scan_check.specs.Opening.{covers_unscanned, opening}
use Rattle.scan_check.specs.Scanned.{scanned_check}
use Rattle.table.specs.Table.{class_of, row_of, held_by, pixel_kind, says, may_place, old_table}
use Rattle.table.specs.Load.{bits_only, has_every, sound, table_check, table_of}
use Rattle.rights.specs.Rights.{rights_check, rights_of}
use Rattle.rights.specs.Worked.{RightsLines}

pub rights_lines : RightsLines
unfolding if some must or_else unless morton column row tile_of tiles_in aligned account_at follows last_of_four ended sound_check word_check words_check list_check place_of scanned point_in point_check asker_check covers_unscanned opening scanned_check class_of row_of held_by pixel_kind says may_place old_table bits_only has_every sound table_check table_of rights_check rights_of
rights_lines = record {
  own = refl;
  students = refl;
  staff = refl;
  nobodys = refl;
  guest = refl;
  workshop_nobodys = refl;
  workshop_students = refl;
  zeros_nobodys = refl;
  zeros_own = refl;
  file_nobodys = refl;
  row_nobodys = refl;
  row_unscanned = refl;
  row_staff = refl;
  row_workshop = refl;
  tiles_first = refl;
  point_then = refl;
  unscanned_then = refl;
  asker_last = refl;
}
