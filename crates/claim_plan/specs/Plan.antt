-- Inner: what a claim changes in a valid list, found without a store: the facts that the functions hand on. Definitions
-- only.
--     Claimable n ts c k a          the checks that come before a claim have passed: ts is valid, the block a quadrant,
--                                   the account an account
--     Covered s lo c k              the tile at lo is larger than the block and does not start behind its corner
--     Changes n ts c k a r          the change r makes of ts the linear quadtree after the claim
--     inner a                       how many tiles a block of the account a has: one, and none for nobody's
--     Plans n ts c k a r            r is such a change with its two counts
use Rattle.std.specs.Prelude.{◌≡◌, List, ◌++◌, ℕ, zero, suc, ◌+◌, ◌^◌, ◌≤◌, ◌<◌, length, take, drop, get_or}
use Rattle.tile.specs.declared.Tile.{Tile}
use Rattle.tile.specs.Tile.{tile_of, highest_order, highest_account}
use Rattle.quadtree.specs.Raster.{Aligned, account_at}
use Rattle.quadtree.specs.Quadtree.{blocks, quadtree}
use Rattle.quadtree.specs.Valid.{Valid}
use Rattle.claim_split.specs.Split.{Split}
use Rattle.bed.specs.Bed.{claimed}
use Rattle.claim_plan.specs.declared.Change.{Change}
use Rattle.claim_plan.specs.declared.Planned.{Planned}

pub record Claimable (n : ℕ) (ts : List Tile) (c k a : ℕ) : Type 0 where
  pub order : n ≤ highest_order
  pub valid : Valid n ts
  pub size : k ≤ n
  pub inside : c < 4 ^ n
  pub aligned : Aligned k c
  pub account : a ≤ highest_account

pub record Covered (s : List ℕ) (lo c k : ℕ) : Type 0 where
  pub some : lo < length s
  pub larger : k < (tile_of (get_or s lo 0)).size
  pub from : (tile_of (get_or s lo 0)).corner ≤ c

pub record Changes (n : ℕ) (ts : List Tile) (c k a : ℕ) (r : Change) : Type 0 where
  pub order : r.lo ≤ r.hi
  pub within : r.hi ≤ length ts
  pub split : Split (claimed (account_at ts) c k a) r.block.size r.block.corner a r.owner r.whole.size r.whole.corner
  pub fits : r.whole.size ≤ n
  pub room : r.whole.corner + 4 ^ r.whole.size ≤ 4 ^ n
  pub owner : r.owner ≤ highest_account
  pub result : take r.lo ts ++ (blocks (claimed (account_at ts) c k a) r.whole.size r.whole.corner ++ drop r.hi ts) ≡
      quadtree n (claimed (account_at ts) c k a)

unfoldable pub inner : ℕ → ℕ
inner zero = 0
inner (suc a) = 1

pub record Plans (n : ℕ) (ts : List Tile) (c k a : ℕ) (r : Planned) : Type 0 where
  pub change : Changes n ts c k a r.change
  pub pieces : r.pieces ≡ length (blocks (claimed (account_at ts) c k a) r.change.whole.size r.change.whole.corner)
  pub tiles : r.tiles ≡ length (quadtree n (claimed (account_at ts) c k a))
