-- The merging loop, turn by turn.
--     Turn ..          the numbers of one turn
--     stands_block     a tile that stands in a bed is a quadrant of the largest
--     stands_turn      the numbers of a turn fit
--     stands_up        where the siblings stand beside the tile, the parent stands in their place
--     stands_merges    where they do not, merging is done
use mathlib.Core.Path.{◌≡◌}
use mathlib.Core.List.{List}
use Prim.Native.Nat.{ℕ, ◌+◌, ◌-◌, ◌*◌, ◌^◌, ◌≤◌, ◌<◌}
use native.Mathlib.Omega.{arith}
use native.Mathlib.Numerals.{add-one}
use lib.ListN.{length}
use mathlib.Core.Bool.{Bool, true, false}
use Rattle.basics.proofs.Tests.{Test, told_true, told_false}
use Rattle.tile.specs.declared.Tile.{Tile}
use Rattle.tile.specs.Tile.{tile, highest_order}
use Rattle.quadtree.proofs.Alignment.{area_mono, size_le}
use Rattle.quadtree.proofs.Tiling.{tiling_le}
use Rattle.claim_split.proofs.Place.{place, between_merge_at, apart_at}
use Rattle.claim_merge.specs.Standing.{Block, Beside, quadrant_of, parent_of, Stands, Merges}
use Rattle.claim_merge.proofs.SiblingsBeside.{rooms}

pub record Turn (length lo hi c k p area : ℕ) : Type 0 where
  pub four : p ≤ 3
  pub left : p ≤ lo
  pub right : hi + (3 - p) ≤ length
  pub less : p * area ≤ c
  pub fits : p * area < 2 ^ 32
  pub small : k ≤ highest_order

module _ {g : ℕ → ℕ} {n : ℕ} {ts : List Tile} {a lo hi c k : ℕ} (m : Stands g n ts a lo hi c k) where
  pub stands_block : n ≤ highest_order → Block c k
  stands_block h =
      let l : c + 4 ^ k ≤ 4 ^ n = tiling_le m.between.rest in
      let b : k ≤ n = size_le k n (omega arith) in
      let q : 4 ^ n ≤ 4 ^ highest_order = area_mono h in
      record { size = omega arith; aligned = m.between.on.aligned; room = omega arith }

  -- the siblings of a tile of the account b, which is a, are looked for
  module _ {b : ℕ} {r : Bool} (same : b ≡ a) (t : Test (Beside ts lo hi c k b) r) where
    pub stands_merges : r ≡ false → Merges g n ts a lo hi c k
    stands_merges u = record { stands = m; apart = apart_at ts lo hi (omega (arith, m.order, m.within)) m.within k a c (quadrant_of c k) (parent_of c k) (place k c m.between.on.aligned) (λ x y z w. told_false (rw same at t) u (record { left = x; right = y; ahead = z; behind = w })) }

    module _ (u : r ≡ true) (p area : ℕ) (pe : p ≡ quadrant_of c k) (ae : area ≡ 4 ^ k) where
      j : Beside ts lo hi c k a
      j = told_true (rw same at t) u

      pub stands_turn : n ≤ highest_order → Turn (length ts) lo hi c k p area
      stands_turn h =
          let b = stands_block h in
          let r = rooms (tile c k a) p area pe ae b in
          record { four = r.four; left = omega (arith, j.left); right = omega (arith, j.right, m.within); less = r.less; fits = omega (arith, r.less, b.room); small = b.size }

      pub stands_up : Stands g n ts a (lo - p) (hi + (3 - p)) (c - p * area) (k + 1)
      stands_up =
          let h = between_merge_at ts lo hi (omega (arith, m.order, m.within)) m.within k a c (quadrant_of c k) (parent_of c k) (place k c m.between.on.aligned) m.between j.left j.ahead j.behind in
          rw (ae, pe, add-one k) (record { order = omega (arith, m.order); within = omega (arith, m.within, j.right); between = h })
