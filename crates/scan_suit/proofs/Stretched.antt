-- A stretch in Morton order looked at before it is put.
--     stretch_taken   all tests passed
use mathlib.Core.Path.{◌≡◌}
use mathlib.Core.List.{List}
use Prim.Native.Nat.{ℕ, ◌+◌, ◌-◌, ◌/◌, ◌%◌, ◌^◌, ◌≤◌}
use native.Mathlib.Nat.{div-add-mod'}
use native.Mathlib.Omega.{arith}
use lib.ListN.{length}
use Rattle.tile.specs.Tile.{highest_account}
use Rattle.scan_weigh.specs.Weighed.{NoneAbove}
use Rattle.scan_suit.specs.Suits.{StretchTaken}

pub stretch_taken : (n : ℕ) (bytes : List ℕ) (p k m l most top : ℕ) → l ≡ most - most % 4 → most ≤ m → p % 4 ≡ 0 → p + most ≤ 4 ^ n → k + most ≤ length bytes → NoneAbove bytes k (k + l) top → top ≤ highest_account → StretchTaken n bytes p k m l
stretch_taken n bytes p k m l most top el slots ep places given none low = record {
  slots = omega arith;
  aligned = record { times = p / 4; is = omega (arith, div-add-mod' p 4) };
  quads = record { times = most / 4; is = omega (arith, div-add-mod' most 4) };
  places = omega arith;
  given = record { there = omega arith; low = λ i h. omega (arith, none (k + i) (omega arith) (omega arith)) };
}
