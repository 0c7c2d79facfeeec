-- The pass over a list of words, turn by turn.
--     going_start   it begins at the first word
--     going_on      a word that passes takes it on
--     going_stop    a word that does not decides
--     going_end     at the end of the words nothing is left to refuse
--     going_cut     the words from a place on by themselves
use mathlib.Core.Path.{◌≡◌, refl, sym, ◌∙◌, ap}
use mathlib.Core.List.{List, [], ◌∷◌}
use Prim.Native.Nat.{ℕ, ◌+◌, ◌-◌, ◌<◌}
use native.Mathlib.Numerals.{add-one}
use lib.ListN.{length, take, drop, get_or, length-drop}
use lib.Seq.{drop-cons, drop-length, take-length}
use Rattle.refusal.specs.Refusal.{accepted}
use Rattle.refusal.specs.Checks.{or_else}
use Rattle.std.specs.Prelude.{Ok, Err}
use Rattle.refusal.specs.declared.Refusal.{Refusal}
use Rattle.refusal.specs.Refused.{number}
use Rattle.refusal.proofs.RefusedLaws.{else_passed, else_refused}
use Rattle.tile.specs.Tile.{tile_of}
use Rattle.list_check.specs.declared.Ahead.{Ahead}
use Rattle.list_check.specs.ListCheck.{word_check, words_check}
use Rattle.list_check.specs.Pass.{Knows, Judges, Going}
use Rattle.list_check.proofs.OneWord.{word_check_rest}

pub going_start : (n : ℕ) (ws : List ℕ) {a : Ahead} → Knows a [] → Going n ws (words_check n [] ws) 0 a
going_start n ws k = record { seen = []; knows = k; rest = refl }

module _ (n : ℕ) (ws : List ℕ) (x : ℕ) where
  pub going_end : (i : ℕ) {a : Ahead} → i ≡ length ws → Going n ws x i a → accepted ≡ x
  unfolding words_check
  going_end i h g = let d : drop i ws ≡ [] = rw h (drop-length ws) in sym (g.rest ∙ rw d)

  -- the word w at i
  module _ (i : ℕ) {a : Ahead} (h : i < length ws) (g : Going n ws x i a) (w : ℕ) (ew : get_or ws i 0 ≡ w) where
    turn : x ≡ or_else (word_check n g.seen w accepted) (words_check n (tile_of w ∷ g.seen) (drop (i + 1) ws))
    unfolding words_check
    turn = g.rest ∙ rw (drop-cons ws i 0 h, ew, add-one i) (word_check_rest n g.seen w _)

    pub going_on : {b : Ahead} → Judges n g.seen w (Ok b) → Going n ws x (i + 1) b
    going_on s = record { seen = tile_of w ∷ g.seen; knows = s.ahead; rest = turn ∙ else_passed _ s.refusal }

    pub going_stop : (r : Refusal) → Judges n g.seen w (Err r) → number r ≡ x
    going_stop r s = else_refused r _ s.refusal ∙ sym turn

-- the words behind i by themselves, as a slice has them
pub going_cut : (n : ℕ) (ws : List ℕ) (x i : ℕ) {a : Ahead} → Going n ws x i a → Going n (take (length ws - i) (drop i ws)) x 0 a
going_cut n ws x i g =
    let e = ap (λ (j : ℕ). take j (drop i ws)) (sym (length-drop i ws)) ∙ take-length (drop i ws) in
    record { seen = g.seen; knows = g.knows; rest = g.rest ∙ ap (λ vs. words_check n g.seen vs) (sym e) }

-- a pass over words that are given otherwise
pub going_same : {n x : ℕ} {ws vs : List ℕ} {a : Ahead} → ws ≡ vs → Going n vs x 0 a → Going n ws x 0 a
going_same e g = rw e g
