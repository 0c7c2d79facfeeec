-- What a table that passes is, and which table counts.
--     FormedTable t, test_formed          the form of a table
--     SoundTable t, test_sound            02's checks of it
--     table_check_pass, -passed            a table passes just if all of that holds
--     table_of_loaded, -old                a table that passes counts itself; any other as the old one
--     may_loaded, may_old                 their answers, as code finds them
use mathlib.Core.Path.{◌≡◌, refl, sym}
use mathlib.Core.Bool.{Bool, true, false, ◌&&◌}
use mathlib.Core.List.{List, []}
use Prim.Native.Nat.{ℕ}
use native.Mathlib.Omega.{arith}
use lib.Dec.{eqb}
use lib.ListN.{length, get_or}
use Rattle.basics.proofs.Tests.{Test, test_eqb, test_and, test_map}
use Rattle.refusal.specs.Refusal.{accepted, table_malformed, table_unsound}
use Rattle.refusal.proofs.CheckLaws.{must_inv, must_pass, unless_on, unless_off}
use Rattle.table.specs.declared.Class.TheVariants.{Staff, Student, Guest}
use denote.Enum.Declared.{tag_of}
use Rattle.table.specs.contracts.Class as class
use Rattle.table.specs.contracts.Pixel as pixel
use Rattle.table.specs.declared.Class.{Class}
use Rattle.table.specs.declared.Pixel.{Pixel}
use Rattle.table.specs.Table.{class_of, row_of, columns, column_of, own, pixel_kind, says, may_place, old_table}
use Rattle.table.specs.Load.{table_length, bits_only, sound, table_check, table_of}
use Rattle.table.proofs.TableLaws.{row_of_lt, pixel_kind_lt, row_tag, column_tag, old_rows, old_at}
use Rattle.table.proofs.LoadLaws.{Bits, test_bits, test_said, Every, test_every}

abbrev pub FormedTable : List ℕ → Type 0
FormedTable t = (length t ≡ table_length) × Bits t

pub test_formed : (t : List ℕ) → Test (FormedTable t) (eqb (length t) table_length && bits_only t)
test_formed t = test_and (test_eqb (length t) table_length) (test_bits t)

pub record SoundTable (t : List ℕ) : Type 0 where
  pub staffs_own : says t (row_of Staff) own ≡ true
  pub students_own : says t (row_of Student) own ≡ true
  pub guests_own : says t (row_of Guest) own ≡ true
  pub students : Every t (row_of Student) (row_of Guest) columns
  pub staffs : Every t (row_of Staff) (row_of Student) columns

pub test_sound : (t : List ℕ) → Test (SoundTable t) (sound t)
unfolding sound
test_sound t =
    test_map (λ p. record { staffs_own = p.0.0; students_own = p.0.1.0; guests_own = p.0.1.1; students = p.1.0; staffs = p.1.1 })
    (λ p. ((p.staffs_own, (p.students_own, p.guests_own)), (p.students, p.staffs)))
    (test_and (test_and (test_said _) (test_and (test_said _) (test_said _))) (test_and (test_every t _ _ columns) (test_every t _ _ columns)))

pub table_check_passed : (t : List ℕ) → table_check t ≡ accepted → FormedTable t × SoundTable t
unfolding table_check
table_check_passed t e =
    let p = must_inv (test_formed t) (omega arith) e in
    (p.0, (must_inv (test_sound t) (omega arith) p.1).0)

pub table_check_pass : (t : List ℕ) → FormedTable t → SoundTable t → table_check t ≡ accepted
unfolding table_check
table_check_pass t f s = must_pass table_malformed (test_formed t) f (must_pass table_unsound (test_sound t) s refl)

pub table_of_loaded : (t : List ℕ) → table_check t ≡ accepted → table_of t ≡ t
unfolding table_of
table_of_loaded t e = unless_on (table_check t) _ t e

pub table_of_old : (t : List ℕ) → (table_check t ≡ accepted → ⊥) → table_of t ≡ old_table
unfolding table_of
table_of_old t e = unless_off (table_check t) _ t e

module _ (t : List ℕ) (p q : ℕ) (x : Class) (k : Pixel) (ex : x ≡ class_of p) (ek : column_of k ≡ pixel_kind p q) where
  pub may_loaded : table_check t ≡ accepted → (b : Bool) → b ≡ says t (row_of x) (column_of k) → b ≡ may_place (table_of t) p q
  unfolding may_place
  may_loaded e b h = rw (table_of_loaded t e, sym ex, sym ek) h

  pub may_old : (table_check t ≡ accepted → ⊥) → get_or (get_or old_rows (tag_of class.the_type x) []) (tag_of pixel.the_type k) false ≡ may_place (table_of t) p q
  unfolding may_place
  may_old e = rw (row_tag x, column_tag k, table_of_old t e, sym ex, sym ek) (old_at (row_of x) (column_of k) (row_of_lt x) (rw (sym ek) at (pixel_kind_lt p q)))
