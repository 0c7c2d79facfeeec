-- Laws of places among words.
--     cut_wider   a place in a part is the place in the whole, where the part's ends are on either side of z
use Rattle.list_search.specs.Cut.{Cut}
use Rattle.tile.specs.Tile.{tile_of}
use mathlib.Core.Path.{◌≡◌}
use mathlib.Core.List.{List}
use Prim.Native.Nat.{ℕ, ◌-◌, ◌≤◌, ◌<◌}
use native.Mathlib.Decide.{dec_lt}
use native.Mathlib.Omega.{arith}
use lib.ListN.{get_or}

pub cut_wider : {s : List ℕ} {i j k l z r : ℕ} → Cut s j k z r → i ≤ j → k ≤ l → (i < j → (tile_of (get_or s (j - 1) 0)).corner < z) → (k < l → z ≤ (tile_of (get_or s k 0)).corner) → Cut s i l z r
cut_wider {s} {i} {j} {k} {l} {z} {r} w p q low high = record {
  from = omega (arith, w.from);
  to = omega (arith, w.to);
  ahead = λ h. elim (dec_lt j r) [ yes g ↦ w.ahead g | no g ↦ let e : r ≡ j = omega (arith, w.from) in rw e (low (omega arith)) ];
  behind = λ h. elim (dec_lt r k) [ yes g ↦ w.behind g | no g ↦ let e : r ≡ k = omega (arith, w.to) in rw e (high (omega arith)) ];
}
