-- Inner: what the stores of a claim are handed and leave. Definitions only.
--     Drawn length at k c a v s d     the numbers of a block of size s at d around a block of size k at c, whose tiles
--                                     go to the slots from `at` on
--     RoomMade s t lo hi count m        t is s with room for m words in place of those from lo up to hi, of count words
use Rattle.std.specs.Prelude.{◌≡◌, List, ℕ, ◌+◌, ◌-◌, ◌*◌, ◌^◌, ◌≤◌, ◌<◌, take, drop}
use Rattle.std.proofs.Math.Seq.{slice}
use Rattle.tile.specs.Tile.{highest_order, highest_account}
use Rattle.claim_plan.specs.Plan.{inner}

-- a is the inner block's account, v the owner's around it
pub record Drawn (length at k c a v s d : ℕ) : Type 0 where
  pub sizes : k ≤ s
  pub small : s ≤ highest_order
  pub from : d ≤ c
  pub upto : c < d + 4 ^ s
  pub room : d + 4 ^ s ≤ 4 ^ highest_order
  pub owner : v ≤ highest_account
  pub account : a ≤ highest_account
  pub fits : at + (3 * (s - k) + inner a) ≤ length

pub record RoomMade (s t : List ℕ) (lo hi count m : ℕ) : Type 0 where
  pub ahead : take lo t ≡ take lo s
  pub tail : take (count - hi) (drop (lo + m) t) ≡ slice hi count s
