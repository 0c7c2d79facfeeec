-- The number of a roster section, by its entries.
--     falls_between      where a later number is not above an earlier one, one between them is not above the one ahead of it
--     rises_passed       entries that pass rise; rises-pass, entries that rise pass where they are all there
--     section_unsorted   54 just where an entry is not above the one ahead of it
--     section_cut        else 41 just where the bytes end before the entries do
--     section_more       42 just where bytes follow entries that rise
--     section_wrong      43 just where none do, and the entries are not the roster of the tiles
--     section_accepts    and accepted where they are
use mathlib.Core.Path.{◌≡◌, refl, sym, ◌∙◌}
use mathlib.Core.Bool.{Bool, true, false}
use mathlib.Core.List.{List}
use mathlib.Core.Logic.{◌↔◌}
use Prim.Native.Nat.{ℕ, zero, suc, ◌+◌, ◌*◌, ◌≤◌, ◌<◌}
use native.Mathlib.Decide.{dec_le}
use native.Mathlib.Omega.{arith}
use lib.Dec.{leb}
use lib.ListN.{length, get_or}
use Rattle.basics.proofs.Tests.{test_leb}
use Rattle.refusal.specs.Refusal.{accepted, file_cut_short, trailing_bytes, roster_wrong, roster_unsorted}
use Rattle.refusal.specs.Checks.{must, or_else}
use Rattle.refusal.proofs.CheckLaws.{must_on, must_off, must_other, must_not, else_on, else_off, else_not}
use Rattle.tile.specs.declared.Tile.{Tile}
use Rattle.mapfile_roster.specs.declared.Entry.{Entry}
use Rattle.mapfile_roster.specs.Roster.{roster_good}
use Rattle.mapfile_entries.specs.RosterCheck.{entries_at, entries_check, roster_check}
use Rattle.mapfile_entries.proofs.EntriesInTurn.{rise_room, rise_other}
use Rattle.mapfile_entries.proofs.SectionLaws.{Compared, behind_entries, behind_all, compared}
use Rattle.mapfile_sorted.specs.Sorted.{entry_count, entry_account, Rises, Unsorted, Ends}
use Rattle.mapfile_sorted.proofs.Entries.{ahead, low_found, low_refused, cut_found}

pub falls_between : (g : ℕ → ℕ) (i j : ℕ) → i < j → g j ≤ g i → (k : ℕ) × (k < j) × (g (k + 1) ≤ g k)
falls_between g i zero h l = absurd (omega arith)
falls_between g i (suc j) h l =
    let s : suc j ≡ j + 1 = omega arith in
    let m : g (j + 1) ≤ g i = rw s at l in
    elim (dec_le (g (j + 1)) (g j)) [
      | yes f ↦ (j, omega arith, f)
      | no f ↦ elim (dec_le (suc i) j) [
        | yes b ↦ let r = falls_between g i j b (omega arith) in (r.0, omega (arith, r.1), r.2)
        | no b ↦ let e : i ≡ j = omega arith in absurd (f (rw e at m))
      ]
    ]

module _ (rs : List ℕ) where
  abbrev passing : ℕ
  passing = entries_check (entry_count rs) 0 rs 1

  entries_unsorted : Unsorted rs → passing ≡ roster_unsorted
  unfolding ahead
  entries_unsorted f =
      let s : 1 + 5 * (f.0 + 1) ≡ 1 + 5 * suc f.0 = omega arith in
      let l : get_or rs (1 + 5 * suc f.0) 0 < suc (get_or rs (1 + 5 * f.0) 0) = omega (arith, rw s at f.3) in
      low_refused rs (suc f.0) (entry_count rs) 0 1 (omega (arith, f.1)) (omega (arith, f.2)) l

  low_unsorted : (k : ℕ) → k < entry_count rs → 1 + 5 * suc k ≤ length rs → get_or rs (1 + 5 * k) 0 < ahead rs 0 1 k → Unsorted rs
  unfolding ahead
  low_unsorted zero i h l = absurd (omega arith)
  low_unsorted (suc k) i h l =
      let s : 1 + 5 * suc k ≡ 1 + 5 * (k + 1) = omega arith in
      (k, omega arith, omega arith, omega (arith, rw s at l))

  refused_unsorted : passing ≡ roster_unsorted → Unsorted rs
  refused_unsorted e = let l = low_found rs (entry_count rs) 0 1 e in low_unsorted l.entry l.inside l.there l.low

  pub rises_passed : 1 ≤ length rs → passing ≡ accepted → Rises rs
  rises_passed h e j i = elim (dec_le (entry_account rs (j + 1)) (entry_account rs j)) [
    | yes l ↦ absurd (omega (arith, e, entries_unsorted (j, omega (arith, i), omega (arith, rise_room (entry_count rs) 0 rs 1 h e), l)))
    | no l ↦ omega arith
  ]

  pub rises_pass : 1 + 5 * entry_count rs ≤ length rs → Rises rs → passing ≡ accepted
  rises_pass h r = rise_other (entry_count rs) 0 rs 1
      (λ e. omega (arith, cut_found rs (entry_count rs) 0 1 (sym e)))
      (λ e. let f = refused_unsorted (sym e) in omega (arith, r f.0 f.1, f.3))
      refl

wrong_false : (b : Bool) → must b roster_wrong accepted ≡ roster_wrong → b ≡ false
unfolding must
wrong_false true e = absurd (omega arith)
wrong_false false e = refl

right_true : (b : Bool) → must b roster_wrong accepted ≡ accepted → b ≡ true
unfolding must
right_true true e = refl
right_true false e = absurd (omega arith)

by_equal : (x y : ℕ) → ((x ≡ y → ⊥) → ⊥) → x ≡ y
by_equal x y f = elim (dec_le x y) [
  | yes h ↦ elim (dec_le y x) [ yes g ↦ omega arith | no g ↦ absurd (f (λ e. omega arith)) ]
  | no h ↦ absurd (f (λ e. omega arith))
]

module _ (ts : List Tile) (rs : List ℕ) where
  -- the comparison with the tiles gives 43 or nothing
  compared_other : (x : ℕ) → (roster_wrong ≡ x → ⊥) → (accepted ≡ x → ⊥) → must (roster_good ts (entries_at (entry_count rs) rs 1)) roster_wrong accepted ≡ x → ⊥
  compared_other x f g = must_not (roster_good ts (entries_at (entry_count rs) rs 1)) roster_wrong accepted f g

  -- where all entries are there, the number is not 41
  all_there : 1 + 5 * entry_count rs ≤ length rs → roster_check ts rs ≡ file_cut_short → ⊥
  unfolding roster_check
  all_there h e =
      let a = sym (must_on file_cut_short _ (test_leb 1 (length rs)) (omega arith)) ∙ e in
      else_not (passing rs) _ (λ q. omega (arith, cut_found rs (entry_count rs) 0 1 q))
      (must_not (leb (length rs) (1 + 5 * entry_count rs)) trailing_bytes _ (λ q. omega arith) (compared_other file_cut_short (λ q. omega arith) (λ q. omega arith))) a

  -- 54 is of the entries
  entries_number : (r : ℕ) → or_else r (must (leb (length rs) (1 + 5 * entry_count rs)) trailing_bytes (must (roster_good ts (entries_at (entry_count rs) rs 1)) roster_wrong accepted)) ≡ roster_unsorted → r ≡ roster_unsorted
  unfolding or_else
  entries_number zero e = absurd (must_not (leb (length rs) (1 + 5 * entry_count rs)) trailing_bytes _ (λ q. omega arith) (must_not (roster_good ts (entries_at (entry_count rs) rs 1)) roster_wrong accepted (λ q. omega arith) (λ q. omega arith)) e)
  entries_number (suc r) e = e

  abbrev entries : List Entry
  entries = entries_at (entry_count rs) rs 1

  comparing : Ends rs → Rises rs → roster_check ts rs ≡ must (roster_good ts entries) roster_wrong accepted
  comparing w r = compared ts rs (entry_count rs) refl (omega (arith, w)) (rises_pass rs (omega (arith, w)) r) (omega (arith, w)) refl

  ends : {x : ℕ} → Compared ts rs x → Ends rs
  ends c = omega (arith, c.upto, rise_room (entry_count rs) 0 rs 1 c.there c.pass)

  unsorted_there : roster_check ts rs ≡ roster_unsorted → Unsorted rs
  unfolding roster_check
  unsorted_there e =
      let a = must_other (test_leb 1 (length rs)) (λ q. omega arith) e in
      refused_unsorted rs (entries_number (passing rs) a.1)

  unsorted_refused : Unsorted rs → roster_check ts rs ≡ roster_unsorted
  unfolding roster_check
  unsorted_refused f =
      let e = entries_unsorted rs f in
      must_on file_cut_short _ (test_leb 1 (length rs)) (omega (arith, f.2)) ∙ else_off _ _ (λ q. omega (arith, e)) ∙ e

  -- no entry is unsorted, and not all are there: the number of the entries is 41, since it is neither 0 nor 54
  short_entries : (Unsorted rs → ⊥) → 1 ≤ length rs → length rs < 1 + 5 * entry_count rs → passing rs ≡ file_cut_short
  short_entries f h l = by_equal (passing rs) file_cut_short (λ e.
      omega (arith, rise_room (entry_count rs) 0 rs 1 h (rise_other (entry_count rs) 0 rs 1 (λ q. e (sym q)) (λ q. f (refused_unsorted rs (sym q))) refl)))

  short_cut : (Unsorted rs → ⊥) × (length rs < 1 + 5 * entry_count rs) → roster_check ts rs ≡ file_cut_short
  unfolding roster_check
  short_cut p = elim (dec_le 1 (length rs)) [
    | yes h ↦
        let e = short_entries p.0 h p.1 in
        must_on file_cut_short _ (test_leb 1 (length rs)) h ∙ else_off _ _ (λ z. omega (arith, e)) ∙ e
    | no h ↦ must_off file_cut_short _ (test_leb 1 (length rs)) h
  ]

  cut_short : roster_check ts rs ≡ file_cut_short → (Unsorted rs → ⊥) × (length rs < 1 + 5 * entry_count rs)
  cut_short e = (
    λ f. omega (arith, e, unsorted_refused f),
    elim (dec_le (1 + 5 * entry_count rs) (length rs)) [
      | yes h ↦ absurd (all_there h e)
      | no h ↦ omega arith
    ],
  )

  more_follow : roster_check ts rs ≡ trailing_bytes → Rises rs × (1 + 5 * entry_count rs < length rs)
  more_follow e =
      let b = behind_entries ts rs (λ q. omega arith) (λ q. omega arith) e in (
        rises_passed rs b.there b.pass,
        elim (dec_le (length rs) (1 + 5 * entry_count rs)) [
          | yes h ↦ absurd (compared_other trailing_bytes (λ q. omega arith) (λ q. omega arith) (sym (must_on trailing_bytes _ (test_leb (length rs) (1 + 5 * entry_count rs)) h) ∙ b.rest))
          | no h ↦ omega arith
        ],
      )

  follow_more : Rises rs × (1 + 5 * entry_count rs < length rs) → roster_check ts rs ≡ trailing_bytes
  unfolding roster_check
  follow_more p =
      must_on file_cut_short _ (test_leb 1 (length rs)) (omega (arith, p.1)) ∙ else_on _ _ (rises_pass rs (omega (arith, p.1)) p.0)
      ∙ must_off trailing_bytes _ (test_leb (length rs) (1 + 5 * entry_count rs)) (λ l. omega (arith, p.1))

  pub section_unsorted : (roster_check ts rs ≡ roster_unsorted) ↔ Unsorted rs
  section_unsorted = (unsorted_there, unsorted_refused)

  pub section_cut : (roster_check ts rs ≡ file_cut_short) ↔ ((Unsorted rs → ⊥) × (length rs < 1 + 5 * entry_count rs))
  section_cut = (cut_short, short_cut)

  pub section_more : (roster_check ts rs ≡ trailing_bytes) ↔ (Rises rs × (1 + 5 * entry_count rs < length rs))
  section_more = (more_follow, follow_more)

  pub section_wrong : (roster_check ts rs ≡ roster_wrong) ↔ (Ends rs × Rises rs × (roster_good ts entries ≡ false))
  unfolding must
  section_wrong = (
    λ e.
        let c = behind_all ts rs (λ q. omega arith) (λ q. omega arith) (λ q. omega arith) e in
        (ends c, rises_passed rs c.there c.pass, wrong_false (roster_good ts entries) c.rest),
    λ p. comparing p.0 p.1 ∙ rw p.2,
  )

  pub section_accepts : (roster_check ts rs ≡ accepted) ↔ (Ends rs × Rises rs × (roster_good ts entries ≡ true))
  unfolding must
  section_accepts = (
    λ e.
        let c = behind_all ts rs (λ q. omega arith) (λ q. omega arith) (λ q. omega arith) e in
        (ends c, rises_passed rs c.there c.pass, right_true (roster_good ts entries) c.rest),
    λ p. comparing p.0 p.1 ∙ rw p.2,
  )
