-- The corner stands above everything else: a shift.
use mathlib.Core.Path.{refl}
use Rattle.tile.specs.Tile.{tile_of}
use Rattle.tile.proofs.corner.Goals as goal

pub returns : goal.returns
unfolding tile_of
returns c = refl
