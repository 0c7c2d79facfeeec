-- Lists made run by run in Morton order: counted in one pass, and written in another. f is any raster, whose list it is.
--     Counted n f z c          c tiles are counted up to z, and what is left of the linear quadtree makes the count
--     Written n f s t z p      the slots s are written up to p, the tiles up to z, which gives t; what is left makes what is promised
--     counted_start, -run, -all, written-..    their turns; -room: what a turn has room for
--     filled_words             the words written and the slots behind them cleared
use mathlib.Core.Path.{◌≡◌, refl, ap, ◌∙◌, sym}
use mathlib.Core.List.{List, [], ◌∷◌, ◌++◌, map, map-append}
use Prim.Native.Nat.{ℕ, suc, ◌+◌, ◌-◌, ◌^◌, ◌≤◌}
use native.Mathlib.Omega.{arith}
use native.Mathlib.Nat.{add-zero}
use lib.ListN.{length, take, drop, set, replicate, length-append, length-map}
use lib.Seq.{sets, sets-eq, length-sets, take_at}
use Rattle.tile.specs.declared.Tile.{Tile}
use Rattle.tile.specs.Tile.{word_of, highest_order}
use Rattle.tile.specs.Slots.{filled}
use Rattle.quadtree.specs.Quadtree.{quadtree}
use Rattle.quadtree.proofs.Alignment.{area_mono}
use Rattle.quadtree.proofs.ValidLaws.{quadtree_valid, valid_length}
use Rattle.quadtree.specs.Runs.{cut, RunAt}
use Rattle.quadtree.proofs.Rest.{Rest, Behind, rest_all, rest_end}
use Rattle.quadtree.proofs.Laws.{run_by_run}

pub record Counted (n : ℕ) (f : ℕ → ℕ) (z c : ℕ) : Type 0 where
  pub rest : List Tile
  pub goes : Rest n f z rest
  pub count : c + length rest ≡ length (quadtree n f)

pub record Written (n : ℕ) (f : ℕ → ℕ) (s t : List ℕ) (z p : ℕ) : Type 0 where
  pub rest : List Tile
  pub goes : Rest n f z rest
  pub long : length t ≡ length s
  pub count : p + length rest ≡ length (quadtree n f)
  pub left : sets t p (map word_of rest) ≡ sets s 0 (map word_of (quadtree n f))

pub counted_start : (n : ℕ) (f : ℕ → ℕ) → Counted n f 0 0
counted_start n f = record { rest = quadtree n f; goes = rest_all n f; count = omega arith }

pub counted_all : {n : ℕ} {f : ℕ → ℕ} {z c : ℕ} → Counted n f z c → 4 ^ n ≤ z → c ≡ length (quadtree n f)
counted_all w h = let e = ap length (rest_end w.goes h) in omega (arith, w.count)

pub written_start : (n : ℕ) (f : ℕ → ℕ) (s : List ℕ) → Written n f s s 0 0
written_start n f s = record { rest = quadtree n f; goes = rest_all n f; long = refl; count = omega arith; left = refl }

pub written_all : {n : ℕ} {f : ℕ → ℕ} {s t : List ℕ} {z p : ℕ} → Written n f s t z p → 4 ^ n ≤ z → t ≡ sets s 0 (map word_of (quadtree n f))
written_all w h = rw (rest_end w.goes h) at w.left

-- there are few enough tiles
quadtree_few : (n : ℕ) (f : ℕ → ℕ) → n ≤ highest_order → length (quadtree n f) ≤ 4 ^ highest_order
quadtree_few n f h = let m : 4 ^ n ≤ 4 ^ highest_order = area_mono h in omega (arith, valid_length (quadtree_valid n f))

sets_more : (l : List ℕ) (i : ℕ) (vs ws : List ℕ) → sets (sets l i vs) (i + length vs) ws ≡ sets l i (vs ++ ws)
sets_more l i [] ws = rw (add-zero i)
sets_more l i (v ∷ vs) ws = let e : i + suc (length vs) ≡ suc i + length vs = omega arith in rw e (sets_more (set l i v) (suc i) vs ws)

-- the tiles k, up to e, are next
module _ {n : ℕ} {f : ℕ → ℕ} {e : ℕ} {k : List Tile} where
  counted_next : {z c : ℕ} (d : Counted n f z c) → Behind n f e k d.rest → Counted n f e (c + length k)
  counted_next d b = record { rest = b.rest; goes = b.goes; count = omega (arith, d.count, ap length b.is, length-append k b.rest) }

  next_room : {z c : ℕ} (d : Counted n f z c) → Behind n f e k d.rest → c + length k ≤ length (quadtree n f)
  next_room d b = omega (arith, d.count, ap length b.is, length-append k b.rest)

  module _ {o q : List ℕ} {z p : ℕ} (d : Written n f o q z p) (b : Behind n f e k d.rest) where
    written_next : Written n f o (sets q p (map word_of k)) e (p + length k)
    written_next = record {
      rest = b.rest;
      goes = b.goes;
      long = length-sets q p (map word_of k) ∙ d.long;
      count = omega (arith, d.count, ap length b.is, length-append k b.rest);
      left = rw (← length-map k word_of, sets_more q p (map word_of k) (map word_of b.rest), ← map-append word_of k b.rest, ← b.is) d.left;
    }

    slots_room : length (quadtree n f) ≤ length o → p + length k ≤ length q
    slots_room h = omega (arith, d.count, d.long, ap length b.is, length-append k b.rest)

-- a run; `end` is the number of the bed's pixels as the code has it
module _ {n : ℕ} {f : ℕ → ℕ} {end z a e : ℕ} (few : n ≤ highest_order) (is : end ≡ 4 ^ n) (r : RunAt f end z a e) where
  pub run_room : e ≤ 4 ^ highest_order
  run_room = let m : 4 ^ n ≤ 4 ^ highest_order = area_mono few in omega (arith, r.room)

  behind : {us : List Tile} → Rest n f z us → Behind n f e (cut highest_order z e a) us
  behind g = run_by_run highest_order run_room (rw is at r) g

  pub counted_run : {c : ℕ} → Counted n f z c → Counted n f e (c + length (cut highest_order z e a))
  counted_run d = counted_next d (behind d.goes)

  pub counted_room : {c : ℕ} → Counted n f z c → c + length (cut highest_order z e a) ≤ 4 ^ highest_order
  counted_room d = omega (arith, quadtree_few n f few, next_room d (behind d.goes))

  module _ {o q : List ℕ} {p : ℕ} (d : Written n f o q z p) where
    pub written_run : Written n f o (sets q p (map word_of (cut highest_order z e a))) e (p + length (cut highest_order z e a))
    written_run = written_next d (behind d.goes)

    pub written_room : length (quadtree n f) ≤ length o → p + length (cut highest_order z e a) ≤ length q
    written_room h = slots_room d (behind d.goes) h

-- the words written, and the slots behind them cleared
pub filled_words : (ts : List Tile) (s : List ℕ) {out end : List ℕ} (c : ℕ) → c ≡ length ts → c ≤ length s → out ≡ sets s 0 (map word_of ts) → end ≡ take c out ++ replicate (length out - c) 0 → end ≡ filled (length s) ts
unfolding filled
filled_words ts s {out} {end} c e h o q =
    let k : c ≡ length (map word_of ts) = e ∙ sym (length-map ts word_of) in
    let m : length out - c ≡ length s - length ts = omega (arith, ap length o, length-sets s 0 (map word_of ts)) in
    q ∙ rw (m, o, sets-eq (map word_of ts) s 0 (omega arith), take_at (map word_of ts) (drop (0 + length (map word_of ts)) s) c (sym k))
