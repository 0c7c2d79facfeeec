-- The accounts in the set are the roster's.
use mathlib.Core.Path.{◌∙◌}
use mathlib.Core.List.{map}
use Rattle.tile.specs.Tile.{tile_of}
use Rattle.mapfile_sections.proofs.Members.{accounts_count}
use Rattle.mapfile_sections.proofs.Roster.len.Goals as goal

pub returns : goal.returns
returns c =
    let roster = c.args.self.now in
    c.count.ensures ∙ accounts_count (map tile_of roster.words.now) roster.has_tiles
