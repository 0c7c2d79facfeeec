-- Sums over the words of a file, turn by turn: what is summed and what is left make the whole.
--     covered_start, -on, -end   the pixels of an account, by the words from p on
use mathlib.Core.Path.{◌≡◌}
use mathlib.Core.List.{List, map}
use Prim.Native.Nat.{ℕ, suc, ◌+◌, ◌-◌, ◌^◌, ◌<◌}
use native.Mathlib.Omega.{arith}
use lib.Dec.{eqb}
use Rattle.basics.specs.Choice.{if}
use Rattle.tile.specs.Tile.{tile_of}
use Rattle.mapfile_bytes.specs.Items.{word_at, words_at}
use Rattle.mapfile_roster.specs.Roster.{covered}

module _ (a t : ℕ) (bs : List ℕ) where
  pub covered_start : 0 + covered a (map tile_of (words_at (t - 0) bs 5)) ≡ covered a (map tile_of (words_at t bs 5))
  covered_start = let s : t - 0 ≡ t = omega arith in rw s (omega arith)

  module _ (i p sum : ℕ) {all : ℕ} (e : sum + covered a (map tile_of (words_at (t - i) bs p)) ≡ all) where
    pub covered_on : (x w : ℕ) → i < t → w ≡ word_at bs p → x ≡ if (eqb (tile_of w).account a) (4 ^ (tile_of w).size) 0 → sum + x + covered a (map tile_of (words_at (t - (i + 1)) bs (p + 4))) ≡ all
    unfolding covered words_at
    covered_on x w h v k =
        let s : t - i ≡ suc (t - (i + 1)) = omega arith in
        omega (arith, rw (s, ← v) at e)

    pub covered_end : i ≡ t → sum ≡ all
    unfolding covered words_at
    covered_end h = let s : t - i ≡ 0 = omega arith in omega (arith, rw s at e)
