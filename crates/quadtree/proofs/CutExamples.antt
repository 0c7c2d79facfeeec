-- Stretches cut and runs of a raster, computed.
use mathlib.Core.Path.{◌≡◌, refl}
use mathlib.Core.List.{[], ◌∷◌}
use Prim.Native.Nat.{ℕ}
use lib.ListN.{get_or, length}
use Rattle.basics.specs.Choice.{if}
use Rattle.tile.specs.Tile.{tile}
use Rattle.quadtree.specs.Raster.{aligned}
use Rattle.quadtree.specs.Runs.{largest, cut_in, cut, ahead, runs_from, runs_of, tiles_of}

-- sizes rise to the largest block that fits, and fall again
rises_and_falls : cut 10 3 38 7 ≡ tile 3 0 7 ∷ tile 4 1 7 ∷ tile 8 1 7 ∷ tile 12 1 7 ∷ tile 16 2 7 ∷ tile 32 1 7 ∷ tile 36 0 7 ∷ tile 37 0 7 ∷ []
unfolding cut cut_in largest aligned
rises_and_falls = refl

-- a whole bed is one tile, and one pixel less is thirty
whole : cut 10 0 1048576 1 ≡ tile 0 10 1 ∷ []
unfolding cut cut_in largest aligned
whole = refl

all_but_one : length (cut 10 1 1048576 1) ≡ 30
unfolding cut cut_in largest aligned
all_but_one = refl

bed : ℕ → ℕ
bed z = get_or (1 ∷ 1 ∷ 1 ∷ 1 ∷ 1 ∷ 0 ∷ 2 ∷ 2 ∷ 3 ∷ 3 ∷ 3 ∷ 3 ∷ 0 ∷ 0 ∷ 0 ∷ 1 ∷ []) z 0

-- runs cut in turn
runs : tiles_of 2 (runs_of 2 bed) ≡ tile 0 1 1 ∷ tile 4 0 1 ∷ tile 6 0 2 ∷ tile 7 0 2 ∷ tile 8 1 3 ∷ tile 15 0 1 ∷ []
unfolding tiles_of runs_of runs_from ahead bed cut cut_in largest aligned if
runs = refl
