-- From what the searches find in the words to the case of the claim.
--     covered_kept, -split     the tile at lo covers the block
--     free_cleared, -stands    no larger tile covers it
use mathlib.Core.Path.{◌≡◌}
use mathlib.Core.List.{List, map}
use Prim.Native.Nat.{ℕ, zero, suc, ◌+◌, ◌-◌, ◌^◌, ◌≤◌, ◌<◌}
use native.Mathlib.Omega.{arith}
use native.Mathlib.Decide.{dec_lt, dec_le}
use lib.ListN.{length, take, drop, get_or, length-map, get_or-map}
use Rattle.tile.specs.declared.Tile.{Tile}
use Rattle.tile.specs.Tile.{stop, tile_of}
use Rattle.tile.proofs.TileLaws.{tile_of_account}
use Rattle.quadtree.specs.Raster.{Aligned, account_at}
use Rattle.quadtree.proofs.Alignment.{aligned_down, aligned_next, aligned_gap}
use Rattle.quadtree.proofs.Tiling.{Tiling}
use Rattle.quadtree.proofs.ValidLaws.{valid_tiling}
use Rattle.claim_split.proofs.Index.{tiling_placed, tiling_rising, Upto, tiling_cut_at, At, tiling_at}
use Rattle.bed.specs.Bed.{claimed}
use Rattle.claim_merge.specs.Standing.{Stands}
use Rattle.list_search.specs.FirstPast.{FirstPast}
use Rattle.claim_plan.specs.Plan.{Claimable, Covered, Changes}
use Rattle.claim_plan.proofs.Cases.{claimable_room, kept_changes, split_changes, cleared_changes, claimed_stands}

-- what a search says of the tiles
module _ (s : List ℕ) where
  tile_at_lem : ℕ → Tile
  tile_at_lem j = get_or (map tile_of s) j (tile_of 0)

  past_upto : (from x r : ℕ) → FirstPast s from x r → Upto (tile_of 0) 0 (map tile_of s) from x → Upto (tile_of 0) 0 (map tile_of s) r x
  past_upto from x zero e u = omega arith
  past_upto from x (suc r) e u = elim (dec_lt from (suc r)) [
    | yes l ↦
        let p : suc r - 1 ≡ r = omega arith in
        rw (get_or-map tile_of s r 0) (rw p at (e.ahead l))
    | no l ↦ let p : from ≡ suc r = omega (arith, e.low) in rw p at u
  ]

  past_stop : (from x r : ℕ) → FirstPast s from x r → r < length (map tile_of s) → x < stop (tile_at_lem r)
  unfolding tile_at_lem
  past_stop from x r e h = rw (get_or-map tile_of s r 0) (e.past (omega (arith, length-map s tile_of)))

module _ {n : ℕ} {s : List ℕ} {c k a lo : ℕ} (q : Claimable n (map tile_of s) c k a) (e : FirstPast s 0 c lo) where
  whole : Tiling (account_at (map tile_of s)) (4 ^ n) 0 (map tile_of s)
  whole = valid_tiling q.valid

  under : lo < length s → At (account_at (map tile_of s)) (4 ^ n) (map tile_of s) lo (tile_of (get_or s lo 0))
  under l = rw (get_or-map tile_of s lo 0) at (tiling_at (tile_of 0) lo whole (omega (arith, length-map s tile_of)))

  -- t is the tile at lo
  module _ (o : Covered s lo c k) (t : Tile) (is : t ≡ tile_of (get_or s lo 0)) where
    pub covered_kept : t.account ≡ a → Changes n (map tile_of s) c k a (record { lo = lo; hi = lo + 1; whole = record { corner = t.corner; size = t.size }; block = record { corner = t.corner; size = t.size }; owner = t.account })
    covered_kept = rw is (kept_changes q (under o.some) o.larger o.from (e.past o.some) (omega (arith, o.some, length-map s tile_of)) (tile_of_account _))

    pub covered_split : (t.account ≡ a → ⊥) → Changes n (map tile_of s) c k a (record { lo = lo; hi = lo + 1; whole = record { corner = t.corner; size = t.size }; block = record { corner = c; size = k }; owner = t.account })
    covered_split = rw is (split_changes q (under o.some) o.larger o.from (e.past o.some) (omega (arith, o.some, length-map s tile_of)) (tile_of_account _))

  module _ (free : Covered s lo c k → ⊥) {hi : ℕ} (b : FirstPast s lo (c + 4 ^ k) hi) where
    -- a tile that reaches over x, and is not larger than the block, starts from x on
    starts : (x : ℕ) (u : Tile) → Aligned k x → Aligned u.size u.corner → u.size ≤ k → x < stop u → x ≤ u.corner
    starts x u m w l h = elim (dec_lt u.corner x) [ yes g ↦ absurd (omega (arith, aligned_gap w (aligned_down l m) g)) | no g ↦ omega arith ]

    not_covered : lo < length (map tile_of s) → k < (tile_at_lem s lo).size → (tile_at_lem s lo).corner ≤ c → ⊥
    unfolding tile_at_lem
    not_covered l g h = free (record { some = omega (arith, length-map s tile_of); larger = rw (get_or-map tile_of s lo 0) at g; from = rw (get_or-map tile_of s lo 0) at h })

    first_from : lo < length (map tile_of s) → c ≤ (tile_at_lem s lo).corner
    unfolding tile_at_lem
    first_from l = elim (dec_le (get_or (map tile_of s) lo (tile_of 0)).size k) [
      | yes g ↦ starts c (get_or (map tile_of s) lo (tile_of 0)) q.aligned (tiling_placed (tile_of 0) lo whole l).on.aligned g (past_stop s 0 c lo e l)
      | no g ↦ elim (dec_le (get_or (map tile_of s) lo (tile_of 0)).corner c) [ yes h ↦ absurd (not_covered l (omega arith) h) | no h ↦ omega arith ]
    ]

    last_from : hi < length (map tile_of s) → c + 4 ^ k ≤ (tile_at_lem s hi).corner
    unfolding tile_at_lem
    last_from l = elim (dec_le u.size k) [
      | yes g ↦ starts (c + 4 ^ k) u (aligned_next q.aligned) p g (past_stop s lo (c + 4 ^ k) hi b l)
      | no g ↦ elim (dec_le u.corner c) [
        | yes h ↦ elim (dec_lt lo hi) [
          | yes i ↦ absurd (omega (arith, tiling_rising (tile_of 0) lo hi whole i l, past_stop s 0 c lo e (omega arith)))
          | no i ↦ let z : lo ≡ hi = omega (arith, b.low) in absurd (not_covered (omega arith) (rw z (omega arith)) (rw z h))
        ]
        | no h ↦ aligned_gap q.aligned (aligned_down (omega arith) p) (omega arith)
      ]
    ]
      where
        u : Tile
        u = get_or (map tile_of s) hi (tile_of 0)

        p : Aligned (get_or (map tile_of s) hi (tile_of 0)).size (get_or (map tile_of s) hi (tile_of 0)).corner
        p = (tiling_placed (tile_of 0) hi whole l).on.aligned

    room_lo : lo ≤ length (map tile_of s)
    room_lo = omega (arith, e.high, length-map s tile_of)

    room_hi : hi ≤ length (map tile_of s)
    room_hi = omega (arith, b.high, length-map s tile_of)

    free_ahead : Tiling (account_at (map tile_of s)) c 0 (take lo (map tile_of s))
    unfolding tile_at_lem
    free_ahead = (tiling_cut_at (tile_of 0) c lo whole room_lo (past_upto s 0 c lo e (omega arith)) first_from (omega (arith, claimable_room q))).0

    wider : (r : ℕ) → Upto (tile_of 0) 0 (map tile_of s) r c → Upto (tile_of 0) 0 (map tile_of s) r (c + 4 ^ k)
    wider zero h = omega arith
    wider (suc r) h = omega arith

    free_rest : Tiling (account_at (map tile_of s)) (4 ^ n) (c + 4 ^ k) (drop hi (map tile_of s))
    unfolding tile_at_lem
    free_rest = (tiling_cut_at (tile_of 0) (c + 4 ^ k) hi whole room_hi (past_upto s lo (c + 4 ^ k) hi b (wider lo (past_upto s 0 c lo e (omega arith)))) last_from (claimable_room q)).1

    pub free_cleared : a ≡ 0 → Changes n (map tile_of s) c k a (record { lo = lo; hi = hi; whole = record { corner = c; size = k }; block = record { corner = c; size = k }; owner = 0 })
    free_cleared = cleared_changes q lo hi b.low room_hi free_ahead free_rest

    pub free_stands : (a ≡ 0 → ⊥) → Stands (claimed (account_at (map tile_of s)) c k a) n (map tile_of s) a lo hi c k
    free_stands z = claimed_stands q lo hi b.low room_hi free_ahead free_rest (omega arith)
