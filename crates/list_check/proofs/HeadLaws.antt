-- The checks up to the end of a list's head, and the list's.
--     list_order, -count, -words    checks 1 and 2 decide, or the words do; words-list, of words alone
--     begun_refused, begun_words    so for a head; begun_known, where it is known to pass
--     begun_ready                   behind a head that passes the words may be asked, and are the list's
use mathlib.Core.Path.{◌≡◌, refl, ap, sym, ◌∙◌}
use mathlib.Core.List.{List, []}
use Prim.Native.Nat.{ℕ, ◌≤◌, ◌<◌}
use native.Mathlib.Omega.{arith}
use native.Mathlib.Nat.{le_refl}
use lib.ListN.{length, take}
use lib.Seq.{length-take-le, take-length}
use Rattle.basics.proofs.Tests.{test_leb}
use Rattle.refusal.specs.Refusal.{accepted, order_too_large, count_above_slots}
use Rattle.refusal.specs.declared.Refusal.{Refusal}
use Rattle.refusal.specs.Refused.{number}
use Rattle.refusal.proofs.CheckLaws.{must_on, must_off}
use Rattle.refusal.proofs.RefusedLaws.{number_some}
use Rattle.tile.specs.Tile.{highest_order}
use Rattle.list_check.specs.ListCheck.{words_check, list_check}
use Rattle.list_check.specs.Pass.{FrontPasses, head, Begun}
use Rattle.list_check.proofs.FrontLaws.{passes_front, passes_all, front_passes, front_refused}

module _ (n t : ℕ) (slots : List ℕ) where
  -- what is begun by a check that refuses
  begun_off : (r : ℕ) → 0 < r → r ≡ list_check n t slots → Begun n t slots r
  begun_off r h e = record { refused = λ z. e; whole = λ y. absurd (omega arith); order = λ y. absurd (omega arith); count = λ y. absurd (omega arith); front = λ y. absurd (omega arith); rest = λ y. absurd (omega arith) }

  pub list_order : highest_order < n → order_too_large ≡ list_check n t slots
  unfolding list_check
  list_order h = sym (must_off order_too_large _ (test_leb n highest_order) (λ l. omega arith))

  pub begun_refused : (r : Refusal) → number r ≡ list_check n t slots → Begun n t slots (number r)
  begun_refused r e = begun_off (number r) (number_some r) e

  module _ (o : n ≤ highest_order) where
    pub list_count : length slots < t → count_above_slots ≡ list_check n t slots
    unfolding list_check
    list_count h = sym (must_on order_too_large _ (test_leb n highest_order) o ∙ must_off count_above_slots _ (test_leb t (length slots)) (λ l. omega arith))

    module _ (l : t ≤ length slots) where
      pub list_words : words_check n [] (take t slots) ≡ list_check n t slots
      unfolding list_check
      list_words = sym (must_on order_too_large _ (test_leb n highest_order) o ∙ must_on count_above_slots _ (test_leb t (length slots)) l)

      -- h words in the head
      pub begun_words : (h : ℕ) → (h ≤ t) × (t ≤ head → h ≡ t) × (head ≤ t → h ≡ head) → (r : ℕ) → r ≡ words_check n [] (take h slots) → Begun n t slots r
      begun_words h b r e = record {
        refused = λ z. e ∙ sym (front_refused n [] h t slots b.0 (λ y. z (e ∙ y))) ∙ list_words;
        whole = λ y k. e ∙ ap (λ (j : ℕ). words_check n [] (take j slots)) (b.1 k) ∙ list_words;
        order = λ y. o;
        count = λ y. length-take-le t slots l;
        front = λ y k. passes_front n t slots head k (rw (b.2 k) at (front_passes n h slots (omega (arith, b.0)) (sym e ∙ y)));
        rest = λ y. list_words;
      }

pub begun_ready : {n t r : ℕ} {slots : List ℕ} → Begun n t slots r → r ≡ accepted → head ≤ t → (n ≤ highest_order) × (head ≤ length (take t slots)) × FrontPasses n (take t slots) head
begun_ready b e h = (b.order e, omega (arith, b.count e), b.front e h)

module _ (n : ℕ) (ws : List ℕ) (o : n ≤ highest_order) where
  pub words_list : words_check n [] ws ≡ list_check n (length ws) ws
  words_list = rw (take-length ws) at (list_words n (length ws) ws o (le_refl (length ws)))

  pub begun_known : (i : ℕ) → head ≤ i → i ≤ length ws → FrontPasses n ws i → Begun n (length ws) ws accepted
  begun_known i h l p = record {
    refused = λ z. absurd (z refl);
    whole = λ y k. sym (passes_all n ws (λ j q. p j (omega arith))) ∙ words_list;
    order = λ y. o;
    count = λ y. length-take-le (length ws) ws (le_refl (length ws));
    front = λ y k. rw (take-length ws) (λ j q. p j (omega arith));
    rest = λ y. list_words n (length ws) ws o (le_refl (length ws));
  }

-- the words by themselves
pub words_given : (n t : ℕ) (slots : List ℕ) {ws : List ℕ} → n ≤ highest_order → t ≤ length slots → ws ≡ take t slots → words_check n [] ws ≡ list_check n t slots
words_given n t slots o l e = rw e (list_words n t slots o l)
