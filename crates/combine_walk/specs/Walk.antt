-- Inner: lists walked in Morton order. Definitions only.
--     Past g end z us        us tile the raster g up to `end` from a number on that is not behind z
--     Stands end t s z i     the cursor i stands at z or ahead of it in the list of the first t slots of s
--     Stretch f end z a e    from z up to e the raster f has the account a
--     PieceOf end t s z r    r is such a stretch of one list, with its cursor
--     Both                   the cursors of two lists
--     StepOf                 such a stretch of the raster f that two lists make, and their cursors at its end
--     NextOf                 a step at z, or none, as z is the bed's end
--     RunOf f .. z a r       from z on f has a whole run of the account a; r has its end and the next step there
--     BothOf, StepBy, RunBy, NextBy   the same of two whole lists of words, and of the raster that a rule makes of them
--     begin_of end r         where a step begins, or the bed's end where there is none
use Rattle.std.specs.Prelude.{◌≡◌, List, ℕ, ◌≤◌, ◌<◌, length, drop, Option, None, Some}
use Rattle.tile.specs.declared.Tile.{Tile}
use Rattle.tile.specs.Tile.{highest_account}
use Rattle.tile.specs.Slots.{tiles_in}
use Rattle.quadtree.specs.Raster.{Uniform, account_at}
use Rattle.quadtree.specs.Tiling.{Tiling}
use Rattle.quadtree.specs.Runs.{RunAt}
use Rattle.combine_rule.specs.Rule.{third_raster}
use Rattle.combine_walk.specs.declared.Piece.{Piece}
use Rattle.combine_walk.specs.declared.Place.{Place}
use Rattle.combine_walk.specs.declared.Step.{Step}
use Rattle.combine_walk.specs.declared.RunEnd.{RunEnd}

pub record Past (g : ℕ → ℕ) (end z : ℕ) (us : List Tile) : Type 0 where
  pub lo : ℕ
  pub from : lo ≤ z
  pub tiling : Tiling g end lo us

pub record Stands (end t : ℕ) (s : List ℕ) (z i : ℕ) : Type 0 where
  pub within : t ≤ length s
  pub upto : i ≤ t
  pub past : Past (account_at (tiles_in t s)) end z (drop i (tiles_in t s))

pub record Stretch (f : ℕ → ℕ) (end z a e : ℕ) : Type 0 where
  pub some : z < e
  pub room : e ≤ end
  pub uniform : Uniform f a z e
  pub low : a ≤ highest_account

pub record PieceOf (end t : ℕ) (s : List ℕ) (z : ℕ) (r : Piece) : Type 0 where
  pub stretch : Stretch (account_at (tiles_in t s)) end z r.account r.stop
  pub stands : Stands end t s z r.at

pub record Both (end t : ℕ) (s : List ℕ) (u : ℕ) (w : List ℕ) (z i j : ℕ) : Type 0 where
  pub first : Stands end t s z i
  pub second : Stands end u w z j

pub record StepOf (f : ℕ → ℕ) (end t : ℕ) (s : List ℕ) (u : ℕ) (w : List ℕ) (z : ℕ) (r : Step) : Type 0 where
  pub from : r.from ≡ z
  pub stretch : Stretch f end z r.account r.end.z
  pub both : Both end t s u w r.end.z r.end.first r.end.second

abbrev pub NextOf : (ℕ → ℕ) → ℕ → ℕ → List ℕ → ℕ → List ℕ → ℕ → Option Step → Type 0
NextOf f end t s u w z None = end ≤ z
NextOf f end t s u w z (Some r) = StepOf f end t s u w z r

pub record RunOf (f : ℕ → ℕ) (end t : ℕ) (s : List ℕ) (u : ℕ) (w : List ℕ) (z a : ℕ) (r : RunEnd) : Type 0 where
  pub run : RunAt f end z a r.stop
  pub low : a ≤ highest_account
  pub ahead : NextOf f end t s u w r.stop r.next

abbrev pub BothOf : ℕ → List ℕ → List ℕ → Place → Type 0
BothOf end s w p = Both end (length s) s (length w) w p.z p.first p.second

abbrev pub StepBy : (ℕ → ℕ → ℕ) → ℕ → List ℕ → List ℕ → ℕ → Step → Type 0
StepBy rule end s w z r = StepOf (third_raster rule (length s) s (length w) w) end (length s) s (length w) w z r

abbrev pub RunBy : (ℕ → ℕ → ℕ) → ℕ → List ℕ → List ℕ → Step → RunEnd → Type 0
RunBy rule end s w b r =
    RunOf (third_raster rule (length s) s (length w) w) end (length s) s (length w) w b.from b.account r

-- where a step begins; where there is none, the bed ends
abbrev pub begin_of : ℕ → Option Step → ℕ
begin_of end None = end
begin_of end (Some r) = r.from

abbrev pub NextBy : (ℕ → ℕ → ℕ) → ℕ → List ℕ → List ℕ → Option Step → Type 0
NextBy rule end s w r =
    NextOf (third_raster rule (length s) s (length w) w) end (length s) s (length w) w (begin_of end r) r
