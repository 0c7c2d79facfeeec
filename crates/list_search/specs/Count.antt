-- How many tiles pass a test. Definitions only.
--     counted g ts   how many tiles of ts pass the test g
--     is_ahead c u    the tile u has a smaller corner than c
use Rattle.std.specs.Prelude.{Bool, List, [], ◌∷◌, ℕ, ◌+◌, ltb}
use Rattle.basics.specs.Choice.{if}
use Rattle.tile.specs.declared.Tile.{Tile}

unfoldable pub counted : (Tile → Bool) → List Tile → ℕ
counted g [] = 0
counted g (u ∷ us) = if (g u) 1 0 + counted g us

abbrev pub is_ahead : ℕ → Tile → Bool
is_ahead c u = ltb u.corner c
