-- The largest block of a stretch by the bits of two numbers.
--     greedy_starts    the size that can start at lo, where there is more room
--     greedy_room      the size that has room, where at least this can start
--     greedy_least     the smaller of the two
use mathlib.Core.Path.{◌≡◌, refl, ap, ◌∙◌}
use Prim.Native.Nat.{ℕ, zero, suc, ◌-◌, ◌/◌, ◌^◌, ◌≤◌, ◌<◌, min}
use native.Mathlib.Decide.{dec_lt}
use native.Mathlib.Omega.{arith}
use lib.Count.{count_leading_zeros, count_trailing_zeros, trailing_of_zero}
use Rattle.tile.specs.Tile.{highest_order}
use Rattle.quadtree.specs.Raster.{Aligned}
use Rattle.quadtree.specs.Runs.{Greedy}
use Rattle.quadtree.proofs.Alignment.{area_mono, size_le, aligned_down}
use Rattle.quadtree.proofs.TrailingZeros.{levels_half}
use Rattle.quadtree.proofs.HighestBit.{Room, room_size}

module _ (lo hi : ℕ) (h : lo < hi) (l : hi ≤ 4 ^ highest_order) where
  abbrev starts : ℕ
  starts = count_trailing_zeros 32 lo / 2

  abbrev room : ℕ
  room = (31 - count_leading_zeros 32 (hi - lo)) / 2

  size : Room (hi - lo) room
  size = room_size (hi - lo) (omega arith) (omega arith)

  few : room ≤ highest_order
  few = size_le room highest_order (omega (arith, size.fits))

  at_zero : lo ≡ 0 → starts ≡ 16
  at_zero e = let q : count_trailing_zeros 32 lo ≡ 32 = ap (λ (x : ℕ). count_trailing_zeros 32 x) e ∙ trailing_of_zero 32 in omega arith

  greedy_starts : starts < room → Greedy lo hi starts
  greedy_starts g = go lo refl
    where
      go : (x : ℕ) → lo ≡ x → Greedy lo hi starts
      go zero e = absurd (omega (arith, at_zero e, few))
      go (suc x) e =
          let v = levels_half lo (omega arith) (omega arith) in
          record {
            aligned = v.ends;
            fits = let m : 4 ^ starts ≤ 4 ^ room = area_mono (omega arith) in omega (arith, size.fits);
            top = λ a k. v.over a;
          }

  greedy_room : room ≤ starts → Greedy lo hi room
  greedy_room g = record { aligned = go lo refl; fits = omega (arith, size.fits); top = λ a k. omega (arith, size.more) }
    where
      go : (x : ℕ) → lo ≡ x → Aligned room lo
      go zero e = record { times = 0; is = omega arith }
      go (suc x) e = let v = levels_half lo (omega arith) (omega arith) in aligned_down g v.ends

  pub greedy_least : (k : ℕ) → k ≡ min starts room → Greedy lo hi k
  greedy_least k e = elim (dec_lt starts room) [
    | yes g ↦ let d : k ≡ starts = omega arith in rw d (greedy_starts g)
    | no g ↦ let d : k ≡ room = omega arith in rw d (greedy_room (omega arith))
  ]
