-- The words that pass, from the front on.
--     passes_rest     the words behind them decide; passes-all, where there are none
--     passes_front    what stands behind a list does not matter
--     front_passes    the words of a list that is accepted pass
--     front_refused   words that are refused are so whatever stands behind them
--     clear_passes    words behind them that are clear pass too
--     front_max       of two such places the farther counts
--     knows_behind    the three in front of a word tell what is ahead of it; going-behind, so that the pass goes on there
use mathlib.Core.Path.{◌≡◌, refl, ap, ap₂, sym, ◌∙◌}
use mathlib.Core.List.{List, [], ◌∷◌}
use Prim.Native.Nat.{ℕ, zero, suc, ◌+◌, ◌≤◌, ◌<◌, max}
use native.Mathlib.Decide.{dec_lt}
use native.Mathlib.Nat.{le_refl}
use native.Mathlib.Omega.{arith}
use lib.ListN.{length, take, drop, get_or}
use lib.Seq.{drop-cons, drop-length, length-take-le, get_or-take}
use Rattle.refusal.specs.Refusal.{accepted}
use Rattle.refusal.specs.Checks.{or_else}
use Rattle.refusal.proofs.CheckLaws.{else_on, else_inv, else_alike}
use Rattle.tile.specs.declared.Tile.{Tile}
use Rattle.tile.specs.Tile.{stop, tile_of, highest_order}
use Rattle.quadtree.proofs.Alignment.{area_pos, size_le, aligned_zero, aligned_gap}
use Rattle.quadtree.proofs.Siblings.{siblings_quarters}
use Rattle.list_flat.specs.Clear.{ClearAt}
use Rattle.list_check.specs.declared.Ahead.{Ahead}
use Rattle.list_check.specs.ListCheck.{ended, word_check, words_check}
use Rattle.list_check.specs.Pass.{Rises, Knows, Going, seen_at, FrontPasses}
use Rattle.list_check.proofs.OneWord.{word_check_rest}
use Rattle.list_check.proofs.Accepts.{passed, passes}

module _ (n : ℕ) where
  passes_rest : (ws : List ℕ) (i : ℕ) → i ≤ length ws → FrontPasses n ws i → words_check n [] ws ≡ words_check n (seen_at ws i) (drop i ws)
  unfolding seen_at words_check
  passes_rest ws zero h p = refl
  passes_rest ws (suc i) h p =
      passes_rest ws i (omega arith) (λ j l. p j (omega arith))
      ∙ rw (drop-cons ws i 0 h) (word_check_rest n (seen_at ws i) (get_or ws i 0) _)
      ∙ else_on _ _ (p i (omega arith))

  pub passes_all : (ws : List ℕ) → FrontPasses n ws (length ws) → words_check n [] ws ≡ accepted
  unfolding words_check
  passes_all ws p = passes_rest ws (length ws) (le_refl (length ws)) p ∙ rw (drop-length ws)

  -- the first words of a list by themselves
  seen_front : (t : ℕ) (slots : List ℕ) (i : ℕ) → i ≤ t → seen_at (take t slots) i ≡ seen_at slots i
  unfolding seen_at
  seen_front t slots zero h = refl
  seen_front t slots (suc i) h = ap₂ (λ (w : ℕ) (l : List Tile). tile_of w ∷ l) (get_or-take t slots i 0 h) (seen_front t slots i (omega arith))

  word_front : (t : ℕ) (slots : List ℕ) (j : ℕ) → j < t → word_check n (seen_at (take t slots) j) (get_or (take t slots) j 0) accepted ≡ word_check n (seen_at slots j) (get_or slots j 0) accepted
  word_front t slots j h = ap₂ (λ (l : List Tile) (w : ℕ). word_check n l w accepted) (seen_front t slots j (omega arith)) (get_or-take t slots j 0 h)

  pub passes_front : (t : ℕ) (slots : List ℕ) (i : ℕ) → i ≤ t → FrontPasses n slots i → FrontPasses n (take t slots) i
  passes_front t slots i h p j l = word_front t slots j (omega arith) ∙ p j l

  -- where all words are accepted, so is the next one
  next_passes : (ws : List ℕ) → words_check n [] ws ≡ accepted → (i : ℕ) → i < length ws → FrontPasses n ws i → word_check n (seen_at ws i) (get_or ws i 0) accepted ≡ accepted
  unfolding words_check
  next_passes ws e i h p =
      let turn : words_check n [] ws ≡ or_else (word_check n (seen_at ws i) (get_or ws i 0) accepted) (words_check n (tile_of (get_or ws i 0) ∷ seen_at ws i) (drop (suc i) ws))
      = passes_rest ws i (omega arith) p ∙ rw (drop-cons ws i 0 h) (word_check_rest n (seen_at ws i) (get_or ws i 0) _)
      in (else_inv _ _ (sym turn ∙ e)).0

  upto : (ws : List ℕ) → words_check n [] ws ≡ accepted → (i : ℕ) → i ≤ length ws → FrontPasses n ws i
  upto ws e zero h j l = absurd (omega arith)
  upto ws e (suc i) h j l = elim (dec_lt j i) [
    | yes q ↦ upto ws e i (omega arith) j q
    | no q ↦ let f : j ≡ i = omega arith in rw f (next_passes ws e i h (upto ws e i (omega arith)))
  ]

  pub front_passes : (t : ℕ) (slots : List ℕ) → t ≤ length slots → words_check n [] (take t slots) ≡ accepted → FrontPasses n slots t
  front_passes t slots h e j l = sym (word_front t slots j l) ∙ upto (take t slots) e t (omega (arith, length-take-le t slots h)) j l

  -- words that are refused are so whatever stands behind them
  pub front_refused : (seen : List Tile) (h t : ℕ) (slots : List ℕ) → h ≤ t → (words_check n seen (take h slots) ≡ accepted → ⊥) → words_check n seen (take t slots) ≡ words_check n seen (take h slots)
  unfolding words_check
  front_refused seen zero t slots l z = absurd (z refl)
  front_refused seen (suc h) zero slots l z = absurd (omega arith)
  front_refused seen (suc h) (suc t) [] l z = refl
  front_refused seen (suc h) (suc t) (w ∷ slots) l z =
      let back = word_check_rest n seen w (words_check n (tile_of w ∷ seen) (take h slots)) in
      word_check_rest n seen w _
      ∙ else_alike (word_check n seen w accepted) _ _ (λ e. front_refused (tile_of w ∷ seen) h t slots (omega arith) (λ y. z (back ∙ else_on _ _ e ∙ y)))
      ∙ sym back

  module _ (slots : List ℕ) where
    abbrev word : ℕ → Tile
    word i = tile_of (get_or slots i 0)

    rises : (i : ℕ) → FrontPasses n slots i → Rises (seen_at slots i)
    unfolding seen_at
    rises zero p = tt
    rises (suc i) p = ((passed n (seen_at slots i) (get_or slots i 0) accepted (p i (omega arith))).sound.after, rises i (λ j l. p j (omega arith)))

    -- three words or more in front of i: they are what is ahead of it
    pub knows_behind : (i : ℕ) {a : Ahead} → 3 ≤ i → ((m : ℕ) → i ≡ m + 3 → (a.stop ≡ stop (word (m + 2))) × (a.first ≡ get_or slots m 0) × (a.second ≡ get_or slots (m + 1) 0) × (a.third ≡ get_or slots (m + 2) 0)) → FrontPasses n slots i → Knows a (seen_at slots i)
    unfolding seen_at ended
    knows_behind zero k f p = absurd (omega arith)
    knows_behind (suc zero) k f p = absurd (omega arith)
    knows_behind (suc (suc zero)) k f p = absurd (omega arith)
    knows_behind (suc (suc (suc m))) k f p =
        let one : m + 1 ≡ suc m = omega arith in
        let two : m + 2 ≡ suc (suc m) = omega arith in
        let e = f m (omega arith) in
        record { stop = rw two at e.0; first = ap tile_of e.1; second = ap tile_of (rw one at e.2); third = ap tile_of (rw two at e.3); rises = rises (suc (suc (suc m))) p }

    pub going_behind : (i : ℕ) {a : Ahead} → i ≤ length slots → FrontPasses n slots i → Knows a (seen_at slots i) → Going n slots (words_check n [] slots) i a
    going_behind i h p k = record { seen = seen_at slots i; knows = k; rest = passes_rest slots i h p }

    module _ (o : n ≤ highest_order) where
      -- a word that is clear, behind three of which the last is clear of it, and the first of all three
      clear_on : (m : ℕ) → ClearAt n slots m → ClearAt n slots (suc (suc m)) → ClearAt n slots (suc (suc (suc m))) → word_check n (seen_at slots (suc (suc (suc m)))) (get_or slots (suc (suc (suc m))) 0) accepted ≡ accepted
      unfolding seen_at ended
      clear_on m a b c =
          let one : m + 1 ≡ suc m = omega arith in
          let two : m + 2 ≡ suc (suc m) = omega arith in
          let three : m + 3 ≡ suc (suc (suc m)) = omega arith in
          let next : suc (suc m) + 1 ≡ suc (suc (suc m)) = omega arith in
          let after : stop (word (suc (suc m))) ≤ (word (suc (suc (suc m)))).corner = rw next at b.clear.after in
          let gap = aligned_gap (aligned_zero (word (suc (suc (suc m)))).size) c.clear.aligned (omega (arith, area_pos (word (suc (suc m))).size)) in
          passes n _ (get_or slots (suc (suc (suc m))) 0) accepted o (record {
            sound = record {
              quadrant = record { fits = size_le (word (suc (suc (suc m)))).size n (omega (arith, c.inside)); inside = c.inside; aligned = c.clear.aligned; owned = c.clear.owned };
              after = after;
            };
            merged = λ s. let q = siblings_quarters s in a.clear.apart _ _ _ s.aligned q.first (rw one q.second) (rw two q.third) (rw three q.fourth);
            on = refl;
          })

      pub clear_passes : (g r : ℕ) → FrontPasses n slots (g + 3) → ((j : ℕ) → g ≤ j → j < r → ClearAt n slots j) → FrontPasses n slots r
      clear_passes g r p c j l = elim (dec_lt j (g + 3)) [ yes q ↦ p j q | no q ↦ beyond j (omega arith) l ]
        where
          beyond : (j : ℕ) → g + 3 ≤ j → j < r → word_check n (seen_at slots j) (get_or slots j 0) accepted ≡ accepted
          beyond zero h l = absurd (omega arith)
          beyond (suc zero) h l = absurd (omega arith)
          beyond (suc (suc zero)) h l = absurd (omega arith)
          beyond (suc (suc (suc m))) h l = clear_on m (c m (omega arith) (omega arith)) (c (suc (suc m)) (omega arith) (omega arith)) (c (suc (suc (suc m))) (omega arith) l)

pub front_max : (n : ℕ) (slots : List ℕ) (i j : ℕ) {m : ℕ} → m ≡ max i j → FrontPasses n slots i → FrontPasses n slots j → FrontPasses n slots m
front_max n slots i j e p q k l = elim (dec_lt k i) [ yes h ↦ p k h | no h ↦ q k (omega (arith, e, l)) ]
