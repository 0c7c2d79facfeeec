-- What loads are good for, proved.
--     loads, old_loads, counts, in_force    `Loads`, `OldLoads`, `Counts`, `InForce`
--     behind_yes                            what the table behind the count says, by the file's own bytes
--     leaves                                what an accepted load leaves
--     old_passes                            the old table passes
--     load_passed                           a table that passes is accepted
use mathlib.Core.Path.{◌≡◌, refl, ap, sym, ◌∙◌}
use mathlib.Core.Bool.{Bool}
use mathlib.Core.List.Memᴰ
use mathlib.Core.List.{List, [], ◌∷◌, ◌++◌}
use mathlib.Core.Logic.{◌↔◌}
use Prim.Native.Nat.{ℕ, ◌+◌, ◌*◌}
use native.Mathlib.Omega.{arith}
use lib.ListN.{length, get_or, drop, length-drop}
use lib.Seq.{get_or-drop}
use Rattle.basics.proofs.Tests.{Test, holds, fails, test_eqb, test_map, told_true, test_true}
use Rattle.refusal.specs.Refusal.{accepted, table_malformed, table_unsound}
use Rattle.refusal.specs.Checks.{must, After}
use Rattle.refusal.proofs.CheckLaws.{must_pass, unless_on, unless_number, by_unless}
use Rattle.table.specs.declared.Class.TheVariants.{Staff, Student, Guest}
use Rattle.table.specs.declared.Class.{Class}
use Rattle.table.specs.Table.{row_of, columns, own, says, old_table}
use Rattle.table.specs.Load.{table_length, bits_only, has_every, sound, table_check, table_of, load_check, load_of}
use Rattle.table.specs.Promises.{Yes, Formed, Sound, Outcome, Loads, OldLoads, Loadable, Counts, load_all, AllRefused, InForce}
use Rattle.table.proofs.CountsLaws.{FormedTable, test_formed, SoundTable, test_sound, table_check_passed, table_of_loaded, table_of_old}
use Rattle.table.proofs.CallLaws.{Counted, test_counted, load_check_passed}

-- ---- a file's table, by the bytes of the file

pub behind_yes : (file : List ℕ) (r k : ℕ) → Test (Yes file r k) (says (drop 1 file) r k)
unfolding says
behind_yes file r k = rw (get_or-drop 1 file (r * columns + k) 0) (test_eqb (get_or file (1 + (r * columns + k)) 0) 1)

formed_whole : (file table : List ℕ) → Counted file (length table) → FormedTable (drop 1 file) → Formed file table
formed_whole file table c f = record {
  whole = omega (arith, f.0, length-drop 1 file);
  count = omega (arith, c.0);
  bits = λ i h. omega (arith, get_or-drop 1 file i 0, f.1 i (omega (arith, f.0)));
  lent = omega (arith, c.1);
}

formed_parts : (file table : List ℕ) → Formed file table → Counted file (length table) × FormedTable (drop 1 file)
formed_parts file table f = (
  (omega (arith, f.count), omega (arith, f.lent)),
  (omega (arith, f.whole, length-drop 1 file), λ i h. omega (arith, get_or-drop 1 file i 0, f.bits i (omega (arith, f.whole, length-drop 1 file)))),
)

sound_file : (file : List ℕ) → SoundTable (drop 1 file) → Sound file
sound_file file s = record {
  owns = owns;
  students = λ k h y. told_true (behind_yes file (row_of Student) k) (s.students k h (test_true (behind_yes file (row_of Guest) k) y));
  staffs = λ k h y. told_true (behind_yes file (row_of Staff) k) (s.staffs k h (test_true (behind_yes file (row_of Student) k) y));
}
  where
    owns : (x : Class) → Yes file (row_of x) own
    owns Staff = told_true (behind_yes file (row_of Staff) own) s.staffs_own
    owns Student = told_true (behind_yes file (row_of Student) own) s.students_own
    owns Guest = told_true (behind_yes file (row_of Guest) own) s.guests_own

sound_table : (file : List ℕ) → Sound file → SoundTable (drop 1 file)
sound_table file s = record {
  staffs_own = test_true (behind_yes file (row_of Staff) own) (s.owns Staff);
  students_own = test_true (behind_yes file (row_of Student) own) (s.owns Student);
  guests_own = test_true (behind_yes file (row_of Guest) own) (s.owns Guest);
  students = λ k h y. test_true (behind_yes file (row_of Student) k) (s.students k h (told_true (behind_yes file (row_of Guest) k) y));
  staffs = λ k h y. test_true (behind_yes file (row_of Staff) k) (s.staffs k h (told_true (behind_yes file (row_of Student) k) y));
}

-- ---- a load's number

number : (file table : List ℕ) → (load_of file table).answer ≡ load_check file (length table)
unfolding load_of
number file table = unless_number (λ (a : After ℕ). a.answer) (load_check file (length table)) (λ n. refl) refl

-- how three checks of two numbers end
record Ends (F S : Type 0) (x : ℕ) : Type 0 where
  malformed : (x ≡ table_malformed) ↔ (F → ⊥)
  unsound : (x ≡ table_unsound) ↔ (F × (S → ⊥))
  accepts : (x ≡ accepted) ↔ (F × S)

ends : {P Q S : Type 0} {a b c : Bool} → Test P a → Test Q b → Test S c →
    Ends (P × Q) S (must a table_malformed (must b table_malformed (must c table_unsound accepted)))
unfolding must
ends (holds p) (holds q) (holds s) = record {
  malformed = (λ e. absurd (omega arith), λ n. absurd (n (p, q)));
  unsound = (λ e. absurd (omega arith), λ n. absurd (n.1 s));
  accepts = (λ e. ((p, q), s), λ n. refl);
}
ends (holds p) (holds q) (fails s) = record {
  malformed = (λ e. absurd (omega arith), λ n. absurd (n (p, q)));
  unsound = (λ e. ((p, q), s), λ n. refl);
  accepts = (λ e. absurd (omega arith), λ n. absurd (s n.1));
}
ends (holds p) (fails q) t = record {
  malformed = (λ e f. q f.1, λ n. refl);
  unsound = (λ e. absurd (omega arith), λ n. absurd (q n.0.1));
  accepts = (λ e. absurd (omega arith), λ n. absurd (q n.0.1));
}
ends (fails p) u t = record {
  malformed = (λ e f. p f.0, λ n. refl);
  unsound = (λ e. absurd (omega arith), λ n. absurd (p n.0.0));
  accepts = (λ e. absurd (omega arith), λ n. absurd (p n.0.0));
}

module _ (file table : List ℕ) where
  load_ends : Ends (Counted file (length table) × FormedTable (drop 1 file)) (Sound file) (load_of file table).answer
  unfolding load_check table_check
  load_ends = rw (number file table)
      (ends (test_counted file (length table)) (test_formed (drop 1 file)) (test_map (sound_file file) (sound_table file) (test_sound (drop 1 file))))

  whole : Counted file (length table) × FormedTable (drop 1 file) → Formed file table
  whole p = formed_whole file table p.0 p.1

  parts : Formed file table → Counted file (length table) × FormedTable (drop 1 file)
  parts = formed_parts file table

  keeps : ((load_of file table).answer ≡ accepted → ⊥) → (load_of file table).storage ≡ table
  unfolding load_of
  keeps n = by_unless (λ (a : After ℕ). (a.answer ≡ accepted → ⊥) → a.storage ≡ table) (load_check file (length table)) (λ x h. refl) (λ e h. absurd (h refl)) n

  pub leaves : (load_of file table).answer ≡ accepted → (load_of file table).storage ≡ drop 1 file
  unfolding load_of
  leaves e = ap (λ (a : After ℕ). a.storage) (unless_on (load_check file (length table)) _ _ (sym (number file table) ∙ e))

  outcome : Outcome file table
  outcome = record {
    malformed = (λ e f. load_ends.malformed.0 e (parts f), λ n. load_ends.malformed.1 (λ p. n (whole p)));
    unsound = (λ e. (whole (load_ends.unsound.0 e).0, (load_ends.unsound.0 e).1), λ n. load_ends.unsound.1 (parts n.0, n.1));
    accepts = (λ e. (whole (load_ends.accepts.0 e).0, (load_ends.accepts.0 e).1), λ n. load_ends.accepts.1 (parts n.0, n.1));
    keeps = keeps;
    leaves = leaves;
  }

pub loads : Loads
unfolding Loads
loads file table = outcome file table

-- ---- the old table, and which table counts

pub old_passes : table_check old_table ≡ accepted
unfolding table_check must bits_only sound has_every says row_of old_table
old_passes = refl

-- a table that passes is left by the load of its file
pub load_passed : (t table : List ℕ) → table_check t ≡ accepted → length table ≡ table_length → (load_of (table_length ∷ t) table).answer ≡ accepted
unfolding load_check
load_passed t table e h = number (table_length ∷ t) table ∙ must_pass table_malformed (test_counted (table_length ∷ t) (length table)) (refl, h) e

pub old_loads : OldLoads
unfolding OldLoads
old_loads table h =
    let e = load_passed old_table table old_passes (omega arith) in
    (e, leaves (table_length ∷ old_table) table e)

-- a table that some load leaves passes
loadable_passes : (t : List ℕ) → Loadable t → table_check t ≡ accepted
loadable_passes t l =
    let e = (load_check_passed l.0 (length l.1) (sym (number l.0 l.1) ∙ l.2)).1 in
    rw (sym (leaves l.0 l.1 l.2) ∙ l.3) at e

pub counts : Counts
counts = record {
  loadable = λ t l. table_of_loaded t (loadable_passes t l);
  others = λ t n. table_of_old t (λ e.
      let h = (table_check_passed t e).0.0 in
      n (table_length ∷ t, t, load_passed t t e h, leaves (table_length ∷ t) t (load_passed t t e h)));
}

-- ---- loads in turn

kept_all : (files : List (List ℕ)) (t : List ℕ) → AllRefused files t → load_all files t ≡ t
unfolding load_all
kept_all [] t n = refl
kept_all (file ∷ files) t n = ap (load_all files) (keeps file t (n file (Memᴰ.head refl))) ∙ kept_all files t (λ f m. n f (Memᴰ.tail m))

loaded_all : (ahead : List (List ℕ)) (file : List ℕ) (behind : List (List ℕ)) (t : List ℕ) → (load_of file (load_all ahead t)).answer ≡ accepted →
    AllRefused behind (drop 1 file) → load_all (ahead ++ (file ∷ behind)) t ≡ drop 1 file
unfolding load_all
loaded_all [] file behind t e n = ap (load_all behind) (leaves file t e) ∙ kept_all behind (drop 1 file) n
loaded_all (a ∷ ahead) file behind t e n = loaded_all ahead file behind (load_of a t).storage e n

pub in_force : InForce
in_force = record {
  first = λ files t e n. ap table_of (kept_all files t n) ∙ e;
  kept = kept_all;
  loaded = λ ahead file behind t e n. (loaded_all ahead file behind t e n, counts.loadable (drop 1 file) (file, load_all ahead t, e, leaves file (load_all ahead t) e));
}
