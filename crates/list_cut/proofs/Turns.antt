-- The turns of the loops over a run: the stretch is cut up to x.
--     Counting a n lo hi x c       c tiles are counted, and the rest makes the count; count-start, -more, -all: its turns
--     Putting a s at lo hi t x p   the slots t hold the words up to p, and the rest makes what is promised; put-start, -more, -all: its turns
use mathlib.Core.Path.{◌≡◌, refl, ap, ◌∙◌}
use mathlib.Core.List.{List, map}
use Prim.Native.Nat.{ℕ, ◌+◌, ◌^◌, ◌≤◌, ◌<◌}
use native.Mathlib.Omega.{arith}
use native.Mathlib.Numerals.{add-one}
use lib.ListN.{length, set, length-set}
use lib.Seq.{sets}
use Rattle.tile.specs.Tile.{tile, word_of, highest_order}
use Rattle.quadtree.proofs.Alignment.{area_pos, size_le}
use Rattle.quadtree.specs.Runs.{Greedy, cut}
use Rattle.quadtree.proofs.Cuts.{cut_step, cut_end}

pub record Counting (a lo hi x c : ℕ) : Type 0 where
  pub upto : x ≤ hi
  pub few : c ≤ x
  pub left : c + length (cut highest_order x hi a) ≡ length (cut highest_order lo hi a)

pub count_start : (a lo hi : ℕ) → lo ≤ hi → Counting a lo hi lo 0
count_start a lo hi h = record { upto = h; few = omega arith; left = omega arith }

module _ {a lo hi x c : ℕ} (w : Counting a lo hi x c) where
  pub count_more : {k : ℕ} → 0 < a → x < hi → hi ≤ 4 ^ highest_order → Greedy x hi k → Counting a lo hi (x + 4 ^ k) (c + 1)
  count_more {k} o h l g = record {
    upto = g.fits;
    few = omega (arith, w.few, area_pos k);
    left = let e = ap length (cut_step highest_order a o h l g) in omega (arith, w.left);
  }

  pub count_all : hi ≤ x → c ≡ length (cut highest_order lo hi a)
  count_all h = let e = ap length (cut_end highest_order x hi a h) in omega (arith, w.left)

pub greedy_size : {lo hi k : ℕ} → hi ≤ 4 ^ highest_order → Greedy lo hi k → k ≤ highest_order
greedy_size {k = k} h g = size_le k highest_order (omega (arith, g.fits))

pub record Putting (a : ℕ) (s : List ℕ) (at lo hi : ℕ) (t : List ℕ) (x p : ℕ) : Type 0 where
  pub upto : x ≤ hi
  pub long : length t ≡ length s
  pub count : p + length (cut highest_order x hi a) ≡ at + length (cut highest_order lo hi a)
  pub left : sets t p (map word_of (cut highest_order x hi a)) ≡ sets s at (map word_of (cut highest_order lo hi a))

pub put_start : (a : ℕ) (s : List ℕ) (at lo hi : ℕ) → lo ≤ hi → Putting a s at lo hi s lo at
put_start a s at lo hi h = record { upto = h; long = refl; count = refl; left = refl }

module _ {a : ℕ} {s : List ℕ} {at lo hi : ℕ} {t : List ℕ} {x p : ℕ} (w : Putting a s at lo hi t x p) where
  module _ {k : ℕ} (o : 0 < a) (h : x < hi) (l : hi ≤ 4 ^ highest_order) (g : Greedy x hi k) where
    pub put_room : at + length (cut highest_order lo hi a) ≤ length s → p < length t
    put_room m = let e = ap length (cut_step highest_order a o h l g) in omega (arith, w.count, w.long)

    pub put_more : Putting a s at lo hi (set t p (word_of (tile x k a))) (x + 4 ^ k) (p + 1)
    put_more = record {
      upto = g.fits;
      long = length-set t p (word_of (tile x k a)) ∙ w.long;
      count = let e = ap length (cut_step highest_order a o h l g) in omega (arith, w.count);
      left = rw (add-one p) (rw (cut_step highest_order a o h l g) at w.left);
    }

  pub put_all : hi ≤ x → (p ≡ at + length (cut highest_order lo hi a)) × (t ≡ sets s at (map word_of (cut highest_order lo hi a)))
  put_all h = let e = ap length (cut_end highest_order x hi a h) in (omega (arith, w.count), rw (cut_end highest_order x hi a h) at w.left)
