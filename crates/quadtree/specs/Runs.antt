-- Inner: a raster as runs: longest stretches of Morton numbers of one account. The law of runs is stated by them.
-- Definitions only.
--     Greedy lo hi k       a block of size k starts at lo and ends by hi, and none of the next size does
--     largest n lo hi      the largest size up to n of a block that starts at lo and ends by hi
--     cut n lo hi a        the stretch from lo up to hi cut into such blocks, one behind the other, as tiles of the
--                          account a; nobody's has none
--     RunAt f end lo a e   from lo up to e the raster f has the account a, which does not go on at e; it may have begun
--                          before lo. The numbers below `end` count
--     Runs f end lo rs     rs are the runs of the raster f from lo on: somebody's, rising, as long as they can be
--     runs_of n f           the same as a program, of the bed of order n
--     tiles_of n rs         the tiles of runs cut in turn
-- That `tiles_of n (runs_of n f)` is the linear quadtree of f is the law of runs (`runs`, proofs/Laws.antt).
use Rattle.std.specs.Prelude.{◌≡◌, true, false, ◌&&◌, List, [], ◌∷◌, ◌++◌, ℕ, zero, suc, ◌+◌, ◌-◌, ◌^◌, ◌≤◌, ◌<◌, leb, eqb}
use Rattle.basics.specs.Choice.{if}
use Rattle.tile.specs.declared.Tile.{Tile}
use Rattle.tile.specs.Tile.{tile}
use Rattle.quadtree.specs.Raster.{Aligned, Uniform, aligned}

pub record Greedy (lo hi k : ℕ) : Type 0 where
  pub aligned : Aligned k lo
  pub fits : lo + 4 ^ k ≤ hi
  pub top : Aligned (suc k) lo → lo + 4 ^ suc k ≤ hi → ⊥

unfoldable pub largest : ℕ → ℕ → ℕ → ℕ
largest zero lo hi = 0
largest (suc k) lo hi = elim (aligned (suc k) lo && leb (lo + 4 ^ suc k) hi) [ true ↦ suc k | false ↦ largest k lo hi ]

-- at most m blocks; a choice by `elim`, not `if`, so that what is not chosen is not computed
unfoldable pub cut_in : ℕ → ℕ → ℕ → ℕ → ℕ → List Tile
cut_in zero n lo hi a = []
cut_in (suc m) n lo hi a = elim (leb hi lo)
    [ true ↦ [] | false ↦ tile lo (largest n lo hi) a ∷ cut_in m n (lo + 4 ^ largest n lo hi) hi a ]

unfoldable pub cut : ℕ → ℕ → ℕ → ℕ → List Tile
cut n lo hi zero = []
cut n lo hi (suc a) = cut_in (hi - lo) n lo hi (suc a)

pub record Run : Type 0 where
  pub from : ℕ
  pub upto : ℕ
  pub account : ℕ

-- the account a does not go on at e
abbrev pub Ended : (ℕ → ℕ) → ℕ → ℕ → ℕ → Type 0
Ended f end a e = e < end → f e ≡ a → ⊥

pub record RunAt (f : ℕ → ℕ) (end lo a e : ℕ) : Type 0 where
  pub some : lo < e
  pub room : e ≤ end
  pub uniform : Uniform f a lo e
  pub ended : Ended f end a e

-- r is the next run of somebody's at or behind lo: what lies between is nobody's
pub record NextRun (f : ℕ → ℕ) (end lo : ℕ) (r : Run) : Type 0 where
  pub after : lo ≤ r.from
  pub blank : Uniform f 0 lo r.from
  pub owned : 0 < r.account
  pub run : RunAt f end r.from r.account r.upto

pub data Runs (f : ℕ → ℕ) (end : ℕ) : ℕ → List Run → Type 0 where
  none : {lo : ℕ} → lo ≤ end → Uniform f 0 lo end → Runs f end lo []
  next : {lo : ℕ} {r : Run} {rs : List Run} → NextRun f end lo r → Runs f end r.upto rs → Runs f end lo (r ∷ rs)

-- a pixel of the account a at lo, ahead of the runs behind it
unfoldable pub ahead : ℕ → ℕ → List Run → List Run
ahead zero lo rs = rs
ahead (suc a) lo [] = record { from = lo; upto = suc lo; account = suc a } ∷ []
ahead (suc a) lo (r ∷ rs) =
    if (eqb r.from (suc lo) && eqb r.account (suc a))
    (record { from = lo; upto = r.upto; account = r.account } ∷ rs)
    (record { from = lo; upto = suc lo; account = suc a } ∷ (r ∷ rs))

-- of the m numbers from lo on
unfoldable pub runs_from : (ℕ → ℕ) → ℕ → ℕ → List Run
runs_from f lo zero = []
runs_from f lo (suc m) = ahead (f lo) lo (runs_from f (suc lo) m)

unfoldable pub runs_of : ℕ → (ℕ → ℕ) → List Run
runs_of n f = runs_from f 0 (4 ^ n)

unfoldable pub tiles_of : ℕ → List Run → List Tile
tiles_of n [] = []
tiles_of n (r ∷ rs) = cut n r.from r.upto r.account ++ tiles_of n rs
