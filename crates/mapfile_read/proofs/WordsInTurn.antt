-- The pass over the words of a file, turn by turn.
--     take_words             the first words of a file are words from the same place on
--     whole_room, -short, -listed, -word   the whole words of a file, and the first m of them
--     Going n t bs i a s     `a` tells of the tiles of the first i words, all of which passed and which have s pixels; the words from i on decide
--     going_start            it begins at the first word
--     going_short            where the bytes end before a word, that decides
--     going_on               a word that passes takes it on; going_fits, the pixels with its tile's fit
--     going_stop             a word that does not decides
--     going_end, going_all   behind the last word nothing is left to refuse, and the pixels are those of all tiles
use mathlib.Core.Path.{◌≡◌, refl, ap, sym, ◌∙◌}
use mathlib.Core.List.{List, [], ◌∷◌, map}
use Prim.Native.Nat.{ℕ, zero, suc, ◌+◌, ◌-◌, ◌*◌, ◌/◌, ◌^◌, ◌≤◌, ◌<◌}
use native.Mathlib.Omega.{arith}
use lib.Dec.{leb}
use lib.ListN.{length, take, drop, get_or, length-map, length-drop}
use lib.Seq.{get_or-take}
use Rattle.std.proofs.lemmas.List.{take-map}
use Rattle.std.specs.Prelude.{Ok, Err}
use Rattle.basics.proofs.Tests.{test_leb}
use Rattle.refusal.specs.declared.Refusal.{Refusal}
use Rattle.refusal.specs.Refusal.{accepted, file_cut_short}
use Rattle.refusal.specs.Refused.{number}
use Rattle.refusal.specs.Checks.{must, or_else}
use Rattle.refusal.proofs.CheckLaws.{must_on, must_off, else_on, else_inv}
use Rattle.refusal.proofs.RefusedLaws.{else_refused}
use Rattle.tile.specs.declared.Tile.{Tile}
use Rattle.tile.specs.Tile.{tile_of, highest_order}
use Rattle.quadtree.specs.Valid.{Sound}
use Rattle.list_check.specs.declared.Ahead.{Ahead}
use Rattle.list_check.specs.ListCheck.{ended, word_check}
use Rattle.list_check.specs.Pass.{Knows, Judges}
use Rattle.list_check.proofs.OneWord.{sound_passed, stop_fits, word_check_rest}
use Rattle.mapfile_bytes.specs.Items.{word_at, words_at}
use Rattle.mapfile_bytes.proofs.ItemsLaws.{words_at_length, words_at_at, words_at_drop, get_or_word}
use Rattle.mapfile_entries.specs.Pixels.{area_of}
use Rattle.mapfile_read.proofs.ReadStores.{part_end}
use Rattle.mapfile_read.specs.Reader.{tiles_check}

pub take_words : (m k : ℕ) (bs : List ℕ) (p : ℕ) → m ≤ k → take m (words_at k bs p) ≡ words_at m bs p
unfolding words_at
take_words zero k bs p h = refl
take_words (suc m) zero bs p h = absurd (omega arith)
take_words (suc m) (suc k) bs p h = ap (λ (ws : List ℕ). word_at bs p ∷ ws) (take_words m k bs (p + 4) (omega arith))

-- all whole words of a file
module _ (bs : List ℕ) (h : 5 ≤ length bs) (ws : List (List ℕ)) (e : map (λ w. word_at w 0) ws ≡ words_at (length (take (length bs - 5) (drop 5 bs)) / 4) (take (length bs - 5) (drop 5 bs)) 0) where
  part : take (length bs - 5) (drop 5 bs) ≡ drop 5 bs
  part = part_end bs 5

  whole_count : length ws ≡ (length bs - 5) / 4
  whole_count = sym (length-map ws (λ w. word_at w 0)) ∙ ap length e ∙ words_at_length _ _ 0 ∙ rw (part, length-drop 5 bs)

  whole : map (λ w. word_at w 0) ws ≡ words_at (length ws) bs 5
  whole = rw whole_count (e ∙ rw (part, length-drop 5 bs) (words_at_drop 5 ((length bs - 5) / 4) bs 0))

  pub whole_room : (i : ℕ) → i < length ws → 5 + 4 * i + 4 ≤ length bs
  whole_room i l = omega (arith, whole_count)

  pub whole_short : length bs < 5 + 4 * length ws + 4
  whole_short = omega (arith, whole_count)

  pub whole_listed : (m : ℕ) → m ≤ length ws → map (λ w. word_at w 0) (take m ws) ≡ words_at m bs 5
  whole_listed m l = sym (take-map (λ w. word_at w 0) m ws) ∙ ap (take m) whole ∙ take_words m (length ws) bs 5 l

  pub whole_word : (m i w : ℕ) → m ≤ length ws → i < m → w ≡ word_at (get_or (take m ws) i []) 0 → w ≡ word_at bs (5 + 4 * i)
  whole_word m i w l k ew =
      let g : get_or (take m ws) i [] ≡ get_or ws i [] = get_or-take m ws i [] k in
      ew ∙ rw g (sym (get_or_word ws i) ∙ rw whole (words_at_at (length ws) bs 5 i (omega arith)))

pub record Going (n t : ℕ) (bs : List ℕ) (i : ℕ) (a : Ahead) (s : ℕ) : Type 0 where
  pub seen : List Tile
  pub knows : Knows a seen
  pub rest : tiles_check n t [] bs 5 ≡ tiles_check n (t - i) seen bs (5 + 4 * i)
  pub summed : s + area_of (map tile_of (words_at (t - i) bs (5 + 4 * i))) ≡ area_of (map tile_of (words_at t bs 5))
  pub below : s ≤ ended seen

-- a word that passes begins where the tile ahead ends, or later
passed_sound : (n : ℕ) (seen : List Tile) (w : ℕ) → word_check n seen w accepted ≡ accepted → Sound n (ended seen) (tile_of w)
unfolding word_check
passed_sound n seen w e = sound_passed n (ended seen) w (else_inv _ _ e).0

module _ (n t : ℕ) (bs : List ℕ) where
  pub going_start : {a : Ahead} → Knows a [] → Going n t bs 0 a 0
  unfolding ended
  going_start k =
      let z : t - 0 ≡ t = omega arith in
      let p : 5 + 4 * 0 ≡ 5 = omega arith in
      record { seen = []; knows = k; rest = rw (z, p); summed = rw (z, p) (omega arith); below = omega arith }

  module _ (i s : ℕ) {a : Ahead} (g : Going n t bs i a s) where
    pub going_end : i ≡ t → accepted ≡ tiles_check n t [] bs 5
    unfolding tiles_check
    going_end e = let z : t - i ≡ 0 = omega arith in sym (g.rest ∙ rw z)

    pub going_all : i ≡ t → s ≡ area_of (map tile_of (words_at t bs 5))
    unfolding area_of words_at
    going_all e = let z : t - i ≡ 0 = omega arith in omega (arith, rw z at g.summed)

    module _ (h : i < t) where
      next : 5 + 4 * i + 4 ≡ 5 + 4 * (i + 1)
      next = omega arith

      turn : tiles_check n t [] bs 5 ≡ must (leb (5 + 4 * i + 4) (length bs)) file_cut_short (word_check n g.seen (word_at bs (5 + 4 * i)) (tiles_check n (t - (i + 1)) (tile_of (word_at bs (5 + 4 * i)) ∷ g.seen) bs (5 + 4 * i + 4)))
      unfolding tiles_check
      turn = let e : t - i ≡ suc (t - (i + 1)) = omega arith in g.rest ∙ rw e

      pub going_short : length bs < 5 + 4 * i + 4 → file_cut_short ≡ tiles_check n t [] bs 5
      going_short l = sym (turn ∙ must_off file_cut_short _ (test_leb (5 + 4 * i + 4) (length bs)) (λ m. omega arith))

      -- the words from i on have the pixels of the first of them, and those of the words behind it
      summed_on : (w : ℕ) → w ≡ word_at bs (5 + 4 * i) → s + 4 ^ (tile_of w).size + area_of (map tile_of (words_at (t - (i + 1)) bs (5 + 4 * (i + 1)))) ≡ area_of (map tile_of (words_at t bs 5))
      unfolding area_of words_at
      summed_on w v =
          let e : t - i ≡ suc (t - (i + 1)) = omega arith in
          rw (← next) (omega (arith, rw (e, ← v) at g.summed))

      module _ (l : 5 + 4 * i + 4 ≤ length bs) (w : ℕ) (e : w ≡ word_at bs (5 + 4 * i)) where
        word : tiles_check n t [] bs 5 ≡ or_else (word_check n g.seen w accepted) (tiles_check n (t - (i + 1)) (tile_of w ∷ g.seen) bs (5 + 4 * (i + 1)))
        word = turn ∙ must_on file_cut_short _ (test_leb (5 + 4 * i + 4) (length bs)) l ∙ rw (e, ← next) (word_check_rest n g.seen (word_at bs (5 + 4 * i)) _)

        pub going_stop : (r : Refusal) → Judges n g.seen w (Err r) → number r ≡ tiles_check n t [] bs 5
        going_stop r j = else_refused r _ j.refusal ∙ sym word

        module _ {b : Ahead} (j : Judges n g.seen w (Ok b)) (k x : ℕ) (ek : k ≡ (tile_of w).size) (ex : x ≡ 4 ^ k) where
          pixels : x ≡ 4 ^ (tile_of w).size
          pixels = ex ∙ ap (λ (k : ℕ). 4 ^ k) ek

          sound : Sound n (ended g.seen) (tile_of w)
          sound = passed_sound n g.seen w (sym j.refusal)

          pub going_fits : n ≤ highest_order → s + x < 2 ^ 32
          going_fits o =
              let b = sound in
              omega (arith, g.below, b.after, stop_fits {n = n} {k = (tile_of w).size} {c = (tile_of w).corner} {d = x} o b.quadrant.fits b.quadrant.inside pixels)

          pub going_on : Going n t bs (i + 1) b (s + x)
          unfolding ended
          going_on =
              let q = sound in
              record {
                seen = tile_of w ∷ g.seen;
                knows = j.ahead;
                rest = word ∙ else_on _ _ (sym j.refusal);
                summed = rw pixels (summed_on w e);
                below = omega (arith, g.below, q.after, pixels);
              }
