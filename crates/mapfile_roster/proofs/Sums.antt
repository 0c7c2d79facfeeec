-- The pixels of an account summed word by word: what is summed and what is left make the whole.
--     covered_on, -end   the words from i on are left
use mathlib.Core.Path.{◌≡◌}
use mathlib.Core.List.{List, [], map}
use Prim.Native.Nat.{ℕ, ◌+◌, ◌^◌, ◌<◌}
use native.Mathlib.Omega.{arith}
use native.Mathlib.Numerals.{add-one}
use lib.Dec.{eqb}
use lib.ListN.{length, drop, get_or}
use lib.Seq.{drop-cons, drop-length}
use Rattle.basics.specs.Choice.{if}
use Rattle.tile.specs.Tile.{tile_of}
use Rattle.mapfile_roster.specs.Roster.{covered}

module _ {A : Type 0} (value : A → ℕ) (a : ℕ) (ws : List A) (i sum : ℕ) {all : ℕ} (e : sum + covered a (map tile_of (map value (drop i ws))) ≡ all) where
  pub covered_on : (w : A) (x n : ℕ) → i < length ws → w ≡ get_or ws i w → n ≡ value w → x ≡ if (eqb (tile_of n).account a) (4 ^ (tile_of n).size) 0 → sum + x + covered a (map tile_of (map value (drop (i + 1) ws))) ≡ all
  unfolding covered
  covered_on w x n h ew en ex = rw (add-one i) (omega (arith, rw (drop-cons ws i w h, ← ew, ← en) at e, ex))

  pub covered_end : i ≡ length ws → sum ≡ all
  unfolding covered
  covered_end h = let d : drop i ws ≡ [] = rw h (drop-length ws) in omega (arith, rw d at e)
