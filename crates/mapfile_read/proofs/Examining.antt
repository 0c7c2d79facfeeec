-- The examination of a file, check by check, and what the reader makes of its answer.
--     no_order, high_order, no_count, few_slots   the refusals of the head of a file
--     Head m bs n t                               n and t are the order and the tile count of a head that passes
--     words_refused, roster_asked                 what follows it
--     read_room, read_stored                      there is room for the words, and with them stored the reader is done
use mathlib.Core.Path.{◌≡◌, ap, sym, ◌∙◌}
use mathlib.Core.List.{List, [], ◌++◌, map}
use Prim.Native.Nat.{ℕ, ◌+◌, ◌-◌, ◌*◌, ◌≤◌, ◌<◌}
use native.Mathlib.Omega.{arith}
use borrow.Author.Tests.{lt-leb, le-leb}
use lib.ListN.{length, take, drop, replicate, length-map}
use Rattle.refusal.specs.declared.Refusal.{Refusal}
use Rattle.refusal.specs.Refusal.{accepted, order_too_large, slots_exceeded, file_cut_short}
use Rattle.refusal.specs.Refused.{number}
use Rattle.refusal.specs.Checks.{must, or_else, After}
use Rattle.refusal.proofs.RefusedLaws.{else_passed, else_refused}
use Rattle.tile.specs.Tile.{tile_of, highest_order}
use Rattle.mapfile_bytes.specs.Items.{word_at, words_at}
use Rattle.mapfile_entries.specs.Pixels.{file_tiles}
use Rattle.mapfile_entries.specs.RosterCheck.{roster_check}
use Rattle.mapfile_read.specs.declared.ReadAnswer.{ReadAnswer}
use Rattle.mapfile_read.specs.Reader.{tiles_check, file_order, file_count, file_words, file_check, read_of}
use Rattle.mapfile_read.proofs.ReaderLaws.{file_check_behind, read_of_valid, read_of_accepted}
use Rattle.mapfile_read.proofs.ReadStores.{store_clear, part_end}

pub record Head (m : ℕ) (bs : List ℕ) (n t : ℕ) : Type 0 where
  pub whole : 5 ≤ length bs
  pub order : n ≡ file_order bs
  pub small : n ≤ highest_order
  pub count : t ≡ file_count bs
  pub slots : t ≤ m

module _ (m : ℕ) (bs : List ℕ) where
  pub no_order : length bs < 1 → file_cut_short ≡ file_check m bs
  unfolding file_check must
  no_order h = sym (simp (lt-leb _ _ h))

  pub high_order : 1 ≤ length bs → highest_order < file_order bs → order_too_large ≡ file_check m bs
  unfolding file_check must
  high_order a h = sym (simp (le-leb _ _ a, lt-leb _ _ h))

  pub no_count : 1 ≤ length bs → file_order bs ≤ highest_order → length bs < 5 → file_cut_short ≡ file_check m bs
  unfolding file_check must
  no_count a b h = sym (simp (le-leb _ _ a, le-leb _ _ b, lt-leb _ _ h))

  pub few_slots : 5 ≤ length bs → file_order bs ≤ highest_order → m < file_count bs → slots_exceeded ≡ file_check m bs
  unfolding file_check must
  few_slots a b h =
      let z : 1 ≤ length bs = omega arith in
      sym (simp (le-leb _ _ z, le-leb _ _ b, le-leb _ _ a, lt-leb _ _ h))

  module _ {n t : ℕ} (head : Head m bs n t) where
    behind : file_check m bs ≡ or_else (tiles_check n t [] bs 5) (roster_check (map tile_of (words_at t bs 5)) (drop (5 + 4 * t) bs))
    behind = rw (head.order, head.count) (file_check_behind m bs head.whole (omega (arith, head.order, head.small)) (omega (arith, head.count, head.slots)))

    pub words_refused : (r : Refusal) → number r ≡ tiles_check n t [] bs 5 → number r ≡ file_check m bs
    words_refused r e = else_refused r _ e ∙ sym behind

    pub roster_asked : accepted ≡ tiles_check n t [] bs 5 → (ws : List (List ℕ)) → map (λ w. word_at w 0) ws ≡ words_at t bs 5 → (x : ℕ) →
        x ≡ roster_check (file_tiles ws) (take (length bs - (5 + 4 * t)) (drop (5 + 4 * t) bs)) → x ≡ file_check m bs
    roster_asked w ws ew x e = e ∙ rw (ew, part_end bs (5 + 4 * t)) (sym (behind ∙ else_passed _ w))

module _ (bs slots : List ℕ) (p : accepted ≡ file_check (length slots) bs) (ws : List (List ℕ)) (ew : map (λ w. word_at w 0) ws ≡ file_words bs) where
  read_count : length ws ≡ file_count bs
  read_count = sym (length-map ws (λ w. word_at w 0)) ∙ ap length ew ∙ (read_of_valid (length slots) bs (sym p)).length_words

  pub read_room : length ws ≤ length slots
  read_room = omega (arith, read_count, (read_of_valid (length slots) bs (sym p)).count)

  pub read_stored : (n : ℕ) (t u : List ℕ) → n ≡ file_order bs → t ≡ map (λ w. word_at w 0) ws ++ drop (length ws) slots →
      u ≡ take (length ws) t ++ replicate (length t - length ws) 0 → ◌≡◌ {A = After ReadAnswer} (record { answer = record { number = accepted; order = n; tiles = length ws }; storage = u }) (read_of bs slots)
  read_stored n t u en et eu =
      let v = read_of_valid (length slots) bs (sym p) in
      let w = store_clear t slots (file_words bs) u (file_count bs) v.length_words v.count (rw (ew, read_count) at et) (rw read_count at eu) in
      rw (read_of_accepted bs slots (sym p), en, read_count, w)
