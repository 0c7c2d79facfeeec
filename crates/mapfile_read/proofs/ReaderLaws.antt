-- What an accepted file has, and one whose roster is wrong.
--     tiles_check_words   words that are there are accepted just where the same words in slots are
--     tiles_check_valid   words that are accepted are there, and are a valid list
--     Passed m bs x      a file of which all but the roster passes with m slots, and the roster section gives x
--     file_check_passed   a file whose number no item ahead of the roster gives is so: ..
--     read_of_valid       .. one that the reader accepts, ..
--     read_of_wrong       .. and one that it refuses by 43
--     file_check_behind   the number of a file whose head passes is that of its words, or else the roster's; file_check_roster, the roster's where the words pass
--     read_of_accepted    what the reader then answers and leaves
use mathlib.Core.Path.{◌≡◌, refl, sym, ◌∙◌}
use mathlib.Core.List.{List, [], ◌∷◌, ◌++◌, map}
use Prim.Native.Nat.{ℕ, zero, suc, ◌+◌, ◌-◌, ◌*◌, ◌≤◌, ◌<◌}
use native.Mathlib.Omega.{arith}
use lib.ListN.{length, drop, replicate}
use Rattle.basics.proofs.Tests.{test_leb}
use Rattle.refusal.specs.Refusal.{accepted, order_too_large, slots_exceeded, file_cut_short, roster_wrong}
use Rattle.refusal.specs.Checks.{or_else}
use Rattle.refusal.proofs.CheckLaws.{must_on, must_inv, must_other, must_low, else_on, else_inv, else_other, else_low, unless_on}
use Rattle.tile.specs.declared.Tile.{Tile}
use Rattle.tile.specs.Tile.{tile_of, highest_order}
use Rattle.quadtree.specs.Valid.{Valid}
use Rattle.list_check.specs.ListCheck.{sound_check, word_check, words_check}
use Rattle.list_check.proofs.OneWord.{word_check_rest}
use Rattle.list_check.proofs.Accepts.{words_check_valid}
use Rattle.mapfile_bytes.specs.Items.{word_at, words_at}
use Rattle.mapfile_bytes.proofs.ItemsLaws.{words_at_length}
use Rattle.mapfile_entries.specs.RosterCheck.{roster_check}
use Rattle.mapfile_read.specs.Reader.{tiles_check, file_order, file_count, file_words, file_check, read_of}

module _ (n : ℕ) where
  passed_words : (t : ℕ) (seen : List Tile) (bs : List ℕ) (p : ℕ) → p ≤ length bs → tiles_check n t seen bs p ≡ accepted → (p + 4 * t ≤ length bs) × (words_check n seen (words_at t bs p) ≡ accepted)
  unfolding tiles_check words_check words_at
  passed_words zero seen bs p h e = (omega arith, refl)
  passed_words (suc t) seen bs p h e =
      let a = must_inv (test_leb (p + 4) (length bs)) (omega arith) e in
      let b = else_inv _ _ (sym (word_check_rest n seen (word_at bs p) _) ∙ a.1) in
      let c = passed_words t (tile_of (word_at bs p) ∷ seen) bs (p + 4) a.0 b.1 in
      (omega (arith, c.0), word_check_rest n seen (word_at bs p) _ ∙ else_on _ _ b.0 ∙ c.1)

  pub tiles_check_words : (t : ℕ) (seen : List Tile) (bs : List ℕ) (p : ℕ) → p + 4 * t ≤ length bs → words_check n seen (words_at t bs p) ≡ accepted → tiles_check n t seen bs p ≡ accepted
  unfolding tiles_check words_check words_at
  tiles_check_words zero seen bs p h e = refl
  tiles_check_words (suc t) seen bs p h e =
      let b = else_inv _ _ (sym (word_check_rest n seen (word_at bs p) _) ∙ e) in
      must_on file_cut_short _ (test_leb (p + 4) (length bs)) (omega arith) ∙ word_check_rest n seen (word_at bs p) _ ∙ else_on _ _ b.0
      ∙ tiles_check_words t (tile_of (word_at bs p) ∷ seen) bs (p + 4) (omega arith) b.1

  pub tiles_check_valid : n ≤ highest_order → (t : ℕ) (bs : List ℕ) → 5 ≤ length bs → tiles_check n t [] bs 5 ≡ accepted → (5 + 4 * t ≤ length bs) × Valid n (map tile_of (words_at t bs 5))
  tiles_check_valid o t bs h e = let a = passed_words t [] bs 5 h e in (a.0, (words_check_valid n o (words_at t bs 5)).0 a.1)

-- no word is refused by a number above 41
word_check_low : (n : ℕ) (seen : List Tile) (w rest : ℕ) → rest ≤ file_cut_short → word_check n seen w rest ≤ file_cut_short
unfolding word_check sound_check
word_check_low n seen w rest l =
    else_low _ _
    (must_low _ _ _ (omega arith) (must_low _ _ _ (omega arith) (must_low _ _ _ (omega arith) (must_low _ _ _ (omega arith) (must_low _ _ _ (omega arith) (omega arith))))))
    (must_low _ _ _ (omega arith) l)

tiles_check_low : (n t : ℕ) (seen : List Tile) (bs : List ℕ) (p : ℕ) → tiles_check n t seen bs p ≤ file_cut_short
unfolding tiles_check
tiles_check_low n zero seen bs p = omega arith
tiles_check_low n (suc t) seen bs p = must_low _ _ _ (omega arith) (word_check_low n seen (word_at bs p) _ (tiles_check_low n t (tile_of (word_at bs p) ∷ seen) bs (p + 4)))

pub record Passed (m : ℕ) (bs : List ℕ) (x : ℕ) : Type 0 where
  pub order : file_order bs ≤ highest_order
  pub count : file_count bs ≤ m
  pub length_words : length (file_words bs) ≡ file_count bs
  pub valid : Valid (file_order bs) (map tile_of (file_words bs))
  pub words : tiles_check (file_order bs) (file_count bs) [] bs 5 ≡ accepted
  pub room : 5 + 4 * file_count bs ≤ length bs
  pub roster : roster_check (map tile_of (file_words bs)) (drop (5 + 4 * file_count bs) bs) ≡ x

pub file_check_passed : (m : ℕ) (bs : List ℕ) {x : ℕ} → ((y : ℕ) → 0 < y → y ≤ file_cut_short → y ≡ x → ⊥) → file_check m bs ≡ x → Passed m bs x
unfolding file_check
file_check_passed m bs h e =
    let a = must_other (test_leb 1 (length bs)) (h file_cut_short (omega arith) (omega arith)) e in
    let b = must_other (test_leb (file_order bs) highest_order) (h order_too_large (omega arith) (omega arith)) a.1 in
    let c = must_other (test_leb 5 (length bs)) (h file_cut_short (omega arith) (omega arith)) b.1 in
    let d = must_other (test_leb (file_count bs) m) (h slots_exceeded (omega arith) (omega arith)) c.1 in
    let f = else_other _ _ (λ g q. h _ g (tiles_check_low (file_order bs) (file_count bs) [] bs 5) q) d.1 in
    let w = tiles_check_valid (file_order bs) b.0 (file_count bs) bs c.0 f.0 in
    record { order = b.0; count = d.0; length_words = words_at_length (file_count bs) bs 5; valid = w.1; words = f.0; room = w.0; roster = f.1 }

pub read_of_valid : (m : ℕ) (bs : List ℕ) → file_check m bs ≡ accepted → Passed m bs accepted
read_of_valid m bs = file_check_passed m bs (λ y g l q. omega arith)

pub read_of_wrong : (m : ℕ) (bs : List ℕ) → file_check m bs ≡ roster_wrong → Passed m bs roster_wrong
read_of_wrong m bs = file_check_passed m bs (λ y g l q. omega arith)

module _ (m : ℕ) (bs : List ℕ) (h : 5 ≤ length bs) (o : file_order bs ≤ highest_order) (c : file_count bs ≤ m) where
  pub file_check_behind : file_check m bs ≡ or_else (tiles_check (file_order bs) (file_count bs) [] bs 5) (roster_check (map tile_of (file_words bs)) (drop (5 + 4 * file_count bs) bs))
  unfolding file_check
  file_check_behind =
      must_on file_cut_short _ (test_leb 1 (length bs)) (omega arith) ∙ must_on order_too_large _ (test_leb (file_order bs) highest_order) o ∙ must_on file_cut_short _ (test_leb 5 (length bs)) h
      ∙ must_on slots_exceeded _ (test_leb (file_count bs) m) c

  pub file_check_roster : tiles_check (file_order bs) (file_count bs) [] bs 5 ≡ accepted → file_check m bs ≡ roster_check (map tile_of (file_words bs)) (drop (5 + 4 * file_count bs) bs)
  file_check_roster w = file_check_behind ∙ else_on _ _ w

pub read_of_accepted : (bs slots : List ℕ) → file_check (length slots) bs ≡ accepted →
    read_of bs slots ≡ record { answer = record { number = accepted; order = file_order bs; tiles = file_count bs }; storage = file_words bs ++ replicate (length slots - file_count bs) 0 }
unfolding read_of
read_of_accepted bs slots e = unless_on _ _ _ e
