-- The worked lines, computed.
use mathlib.Core.Path.{refl}
use Rattle.refusal.specs.Checks.{must, or_else, unless}
use Rattle.tile.specs.Tile.{word_of, tile_of}
use Rattle.tile.specs.Slots.{tiles_in, filled}
use Rattle.quadtree.specs.Raster.{aligned, uniform, account_at}
use Rattle.quadtree.specs.Quadtree.{single, four, blocks, quadtree}
use Rattle.list_check.specs.ListCheck.{follows, last_of_four, ended, sound_check, word_check, words_check, list_check}
use Rattle.combine_rule.specs.Rule.{rule_of}
use Rattle.combine.specs.Combine.{maps_check, combine_refusal, combine_by}
use Rattle.combine.specs.Worked.{zones, three_slots, CombineLines}

pub combine_lines : CombineLines
unfolding must or_else unless word_of tile_of tiles_in filled aligned uniform account_at single four blocks quadtree follows last_of_four ended sound_check word_check words_check list_check rule_of maps_check combine_refusal combine_by zones three_slots
combine_lines = record {
  inside = refl;
  outside = refl;
  zones_inside = refl;
  itself = refl;
  nothing = refl;
  covered = refl;
  too_few = refl;
  first_first = refl;
  second_then = refl;
  orders = refl;
}
