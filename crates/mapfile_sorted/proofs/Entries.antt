-- The entries of a roster section, one by one: which of them is refused.
--     ahead rs least p k   the least account that entry k from p on may have: `least` for the first
--     Low rs q least p     one of the q entries from p on, whose bytes are there, is below it
--     low_found            entries that give 54 have such a one; low-refused, and those that have one give 54
--     cut_found            entries that give 41 are not all there
use mathlib.Core.Path.{◌≡◌, refl, sym, ◌∙◌}
use mathlib.Core.List.{List}
use Prim.Native.Nat.{ℕ, zero, suc, ◌+◌, ◌*◌, ◌≤◌, ◌<◌}
use native.Mathlib.Decide.{dec_le}
use native.Mathlib.Omega.{arith}
use lib.ListN.{length, get_or}
use Rattle.basics.proofs.Tests.{test_leb}
use Rattle.refusal.specs.Refusal.{file_cut_short, roster_unsorted}
use Rattle.refusal.proofs.CheckLaws.{must_on, must_off, must_other}
use Rattle.mapfile_entries.specs.RosterCheck.{entries_check}

module _ (rs : List ℕ) where
  unfoldable pub ahead : ℕ → ℕ → ℕ → ℕ
  ahead least p zero = least
  ahead least p (suc k) = suc (get_or rs (p + 5 * k) 0)

  -- behind the first entry
  ahead_next : (least p k : ℕ) → ahead (suc (get_or rs p 0)) (p + 5) k ≡ ahead least p (suc k)
  unfolding ahead
  ahead_next least p zero = let z : p + 5 * 0 ≡ p = omega arith in rw z refl
  ahead_next least p (suc k) = let z : p + 5 + 5 * k ≡ p + 5 * suc k = omega arith in rw z refl

  pub record Low (q least p : ℕ) : Type 0 where
    pub entry : ℕ
    pub inside : entry < q
    pub there : p + 5 * suc entry ≤ length rs
    pub low : get_or rs (p + 5 * entry) 0 < ahead least p entry

  low_next : {q : ℕ} (least p : ℕ) → Low q (suc (get_or rs p 0)) (p + 5) → Low (suc q) least p
  low_next least p l =
      let z : p + 5 + 5 * l.entry ≡ p + 5 * suc l.entry = omega arith in
      record {
        entry = suc l.entry;
        inside = omega (arith, l.inside);
        there = omega (arith, l.there);
        low = rw (z, ahead_next least p l.entry) at l.low;
      }

  module _ (q least p : ℕ) where
    -- an entry whose bytes are there: it is below the least, or those behind it decide
    first_low : p + 5 ≤ length rs → (least ≤ get_or rs p 0 → ⊥) → entries_check (suc q) least rs p ≡ roster_unsorted
    unfolding entries_check
    first_low h l = must_on file_cut_short _ (test_leb (p + 5) (length rs)) h ∙ must_off roster_unsorted _ (test_leb least (get_or rs p 0)) l

    first_on : p + 5 ≤ length rs → least ≤ get_or rs p 0 → entries_check (suc q) least rs p ≡ entries_check q (suc (get_or rs p 0)) rs (p + 5)
    unfolding entries_check
    first_on h l = must_on file_cut_short _ (test_leb (p + 5) (length rs)) h ∙ must_on roster_unsorted _ (test_leb least (get_or rs p 0)) l

    -- a number other than 41 is of entries of which the first is there
    first_there : {x : ℕ} → (file_cut_short ≡ x → ⊥) → entries_check (suc q) least rs p ≡ x → p + 5 ≤ length rs
    unfolding entries_check
    first_there f e = (must_other (test_leb (p + 5) (length rs)) f e).0

  pub low_found : (q least p : ℕ) → entries_check q least rs p ≡ roster_unsorted → Low q least p
  unfolding entries_check ahead
  low_found zero least p e = absurd (omega arith)
  low_found (suc q) least p e =
      let h = first_there q least p (λ f. omega arith) e in
      elim (dec_le least (get_or rs p 0)) [
        | yes l ↦ low_next least p (low_found q (suc (get_or rs p 0)) (p + 5) (sym (first_on q least p h l) ∙ e))
        | no l ↦ let z : p + 5 * 0 ≡ p = omega arith in record { entry = 0; inside = omega arith; there = omega arith; low = rw z (omega arith) }
      ]

  pub low_refused : (k q least p : ℕ) → k < q → p + 5 * suc k ≤ length rs → get_or rs (p + 5 * k) 0 < ahead least p k → entries_check q least rs p ≡ roster_unsorted
  unfolding ahead
  low_refused k zero least p i h l = absurd (omega arith)
  low_refused zero (suc q) least p i h l =
      let z : p + 5 * 0 ≡ p = omega arith in
      let g : get_or rs p 0 < least = rw z at l in
      first_low q least p (omega arith) (λ f. omega arith)
  low_refused (suc k) (suc q) least p i h l =
      let z : p + 5 * suc k ≡ p + 5 + 5 * k = omega arith in
      let g : get_or rs (p + 5 + 5 * k) 0 < ahead (suc (get_or rs p 0)) (p + 5) k = rw (ahead_next least p k) (rw z at l) in
      elim (dec_le least (get_or rs p 0)) [
        | yes f ↦ first_on q least p (omega arith) f ∙ low_refused k q (suc (get_or rs p 0)) (p + 5) (omega arith) (omega arith) g
        | no f ↦ first_low q least p (omega arith) f
      ]

  pub cut_found : (q least p : ℕ) → entries_check q least rs p ≡ file_cut_short → length rs < p + 5 * q
  unfolding entries_check
  cut_found zero least p e = absurd (omega arith)
  cut_found (suc q) least p e = elim (dec_le (p + 5) (length rs)) [
    | yes h ↦ elim (dec_le least (get_or rs p 0)) [
      | yes l ↦ omega (arith, cut_found q (suc (get_or rs p 0)) (p + 5) (sym (first_on q least p h l) ∙ e))
      | no l ↦ absurd (omega (arith, first_low q least p h l, e))
    ]
    | no h ↦ omega arith
  ]
