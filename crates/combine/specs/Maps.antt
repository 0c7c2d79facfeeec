-- Inner: two maps that passed their checks. Definitions only.
--     Maps n t s u w   the first t slots of s and the first u slots of w hold lists of order n
use Rattle.std.specs.Prelude.{List, ℕ, ◌≤◌, length}
use Rattle.tile.specs.Tile.{highest_order}
use Rattle.tile.specs.Slots.{tiles_in}
use Rattle.quadtree.specs.Valid.{Valid}

pub record Maps (n t : ℕ) (s : List ℕ) (u : ℕ) (w : List ℕ) : Type 0 where
  pub few : n ≤ highest_order
  pub within1 : t ≤ length s
  pub valid1 : Valid n (tiles_in t s)
  pub within2 : u ≤ length w
  pub valid2 : Valid n (tiles_in u w)
