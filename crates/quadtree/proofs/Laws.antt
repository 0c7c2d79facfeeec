-- The laws of the theory, each with its whole statement; the proofs are citations. They hold for every raster, order, size and account.
use mathlib.Core.Path.{◌≡◌, ap}
use mathlib.Core.List.{List, ◌∷◌, ◌++◌, Sublistᴰ}
use mathlib.Core.Logic.{◌↔◌}
use Prim.Native.Nat.{ℕ, ◌+◌, ◌^◌, ◌≤◌, ◌<◌}
use lib.ListN.{length}
use Rattle.tile.specs.declared.Tile.{Tile}
use Rattle.tile.specs.Tile.{stop}
use Rattle.quadtree.specs.Raster.{Aligned, Uniform, account_at, paint, ◌∈◌, Shows}
use Rattle.quadtree.specs.Quadtree.{Largest, LinearQuadtree, quadtree}
use Rattle.quadtree.specs.Valid.{Valid}
use Rattle.quadtree.specs.Runs.{cut, Run, RunAt, Runs, runs_of, tiles_of}
use Rattle.quadtree.proofs.ValidLaws.{quadtree_valid, quadtree_shown, valid_unique}
use Rattle.quadtree.proofs.Least.{shows_least}
use Rattle.quadtree.proofs.Linear.{quadtree_linear, linear_unique, valid_linear, valid_cover, quadtree_shows}
use Rattle.quadtree.proofs.Change.{Fits, Completes, valid_remove, valid_insert}
use Rattle.quadtree.proofs.Merge.{Places, places_painted}
use Rattle.quadtree.proofs.Rest.{Rest, Behind, rest_run}
use Rattle.quadtree.proofs.RunLaws.{runs_cut, runs_of_runs, runs_linear}

-- Cover. In a valid list a block that is uniform with a non-zero account lies inside one tile, which has that account.
pub cover : {n : ℕ} {ts : List Tile} (k c a : ℕ) → Valid n ts → k ≤ n → Aligned k c → c < 4 ^ n → 0 < a → Uniform (account_at ts) a c (c + 4 ^ k) →
    (t : Tile) × (t ∈ ts) × (t.account ≡ a) × (t.corner ≤ c) × (c + 4 ^ k ≤ stop t)
cover = valid_cover

-- Members. The tiles of a valid list are the largest uniform blocks of the accounts that it shows.
pub members : {n : ℕ} {ts : List Tile} → Valid n ts → (t : Tile) → (t ∈ ts) ↔ Largest n (account_at ts) t
members v = (valid_linear v).members

-- Uniqueness. A valid list is the linear quadtree of the accounts that it shows ..
pub unique : {n : ℕ} {ts : List Tile} → Valid n ts → LinearQuadtree n (account_at ts) ts
unique = valid_linear

-- .. a raster has one linear quadtree ..
pub unique_linear : {n : ℕ} {f : ℕ → ℕ} {ts : List Tile} → LinearQuadtree n f ts → ts ≡ quadtree n f
unique_linear = linear_unique

-- .. and two valid lists are equal exactly when they show the same accounts.
pub unique_shown : {n : ℕ} {ts us : List Tile} → Valid n ts → Valid n us → (ts ≡ us) ↔ ((z : ℕ) → z < 4 ^ n → account_at ts z ≡ account_at us z)
unique_shown v w = (λ e z h. ap (λ (xs : List Tile). account_at xs z) e, valid_unique v w)

-- Existence. The executable quadtree is the linear quadtree, is valid and shows its raster.
pub linear : (n : ℕ) (f : ℕ → ℕ) → LinearQuadtree n f (quadtree n f)
linear = quadtree_linear

pub valid : (n : ℕ) (f : ℕ → ℕ) → Valid n (quadtree n f)
valid = quadtree_valid

pub shows : (n : ℕ) (f : ℕ → ℕ) → Shows n f (quadtree n f)
shows = quadtree_shows

-- Round trip. What the linear quadtree shows is the raster again.
pub round_trip : (n : ℕ) (f : ℕ → ℕ) (z : ℕ) → z < 4 ^ n → account_at (quadtree n f) z ≡ f z
round_trip = quadtree_shown

-- Remove. A valid list stays valid when tiles are taken out.
pub remove : {n : ℕ} {us ts : List Tile} → Sublistᴰ us ts → Valid n ts → Valid n us
remove = valid_remove

-- Insert. It stays valid when a tile is put in where it fits, unless the tile completes four siblings.
pub insert : {n : ℕ} {a b : List Tile} {t : Tile} → Valid n (a ++ b) → Fits n a b t → (Completes a t b → ⊥) → Valid n (a ++ t ∷ b)
insert = valid_insert

-- Merge. A tile merged with its siblings while possible and then put in gives the linear quadtree of what the list showed with the tile painted on it.
pub merge : {n : ℕ} {a b ts : List Tile} {t : Tile} → Valid n (a ++ b) → Fits n a b t → Places a t b ts → ts ≡ quadtree n (paint (account_at (a ++ b)) t.corner (stop t) t.account)
merge = places_painted

-- Minimum. No list of quadrant tiles that shows a raster, sorted or not, overlaps of one account allowed, is shorter than its linear quadtree.
pub minimum : {n : ℕ} {f : ℕ → ℕ} {ts : List Tile} → Shows n f ts → length (quadtree n f) ≤ length ts
minimum s = shows_least s

-- Runs. In Morton order a raster is a sequence of runs, longest stretches of one account. Its runs of somebody's, each cut from its start on into the largest blocks that fit, are its linear quadtree: nothing merges ..
pub runs : (n : ℕ) (f : ℕ → ℕ) (rs : List Run) → Runs f (4 ^ n) 0 rs → tiles_of n rs ≡ quadtree n f
runs = runs_cut

-- .. every raster has such runs ..
pub runs_there : (n : ℕ) (f : ℕ → ℕ) → Runs f (4 ^ n) 0 (runs_of n f)
runs_there = runs_of_runs

-- .. in a reader's terms ..
pub runs_are_linear : (n : ℕ) (f : ℕ → ℕ) → LinearQuadtree n f (tiles_of n (runs_of n f))
runs_are_linear = runs_linear

-- .. and run by run, as code goes: what is left of the linear quadtree at the start of a run, somebody's or nobody's, is the run cut, and behind it what is left at its end. Any size that is large enough may be the largest looked for.
pub run_by_run : {n : ℕ} {f : ℕ → ℕ} {lo a hi : ℕ} {us : List Tile} (cap : ℕ) → hi ≤ 4 ^ cap → RunAt f (4 ^ n) lo a hi → Rest n f lo us → Behind n f hi (cut cap lo hi a) us
run_by_run = rest_run
