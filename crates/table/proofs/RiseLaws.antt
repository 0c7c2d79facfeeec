-- Of the table that counts, whatever is handed in:
--     table_of_sound    it passes 02's checks
--     may_own          an asker may place on its own pixels
--     may_rise         at a pixel that is not its own, what an asker may an asker of its class or a higher one may too
use mathlib.Core.Path.{◌≡◌, sym, ◌∙◌}
use mathlib.Core.Bool.{Bool, true}
use mathlib.Core.List.{List}
use Prim.Native.Nat.{ℕ, ◌≤◌}
use native.Mathlib.Omega.{arith}
use lib.Dec.{eqb}
use Rattle.basics.specs.Choice.{if}
use Rattle.basics.proofs.Tests.{Test, holds, fails, test_eqb}
use Rattle.basics.proofs.ChoiceLaws.{if_yes, if_no}
use Rattle.refusal.proofs.CheckLaws.{by_unless}
use Rattle.table.specs.declared.Class.TheVariants.{Staff, Student, Guest}
use Rattle.table.specs.declared.Class.{Class}
use Rattle.table.specs.Table.{class_of, row_of, columns, own, nobodys, held_by, pixel_kind, says, may_place, old_table}
use Rattle.table.specs.Load.{table_check, table_of}
use Rattle.table.proofs.TableLaws.{pixel_kind_lt}
use Rattle.table.proofs.LoadLaws.{Every}
use Rattle.table.proofs.CountsLaws.{SoundTable, table_check_passed}
use Rattle.table.proofs.Promised.{old_passes}

pub table_of_sound : (t : List ℕ) → SoundTable (table_of t)
unfolding table_of
table_of_sound t = by_unless (λ (u : List ℕ). SoundTable u) (table_check t) (λ n. (table_check_passed old_table old_passes).1) (λ e. (table_check_passed t e).1)

module _ {t : List ℕ} (s : SoundTable t) where
  owns : (x : Class) → says t (row_of x) own ≡ true
  owns Staff = s.staffs_own
  owns Student = s.students_own
  owns Guest = s.guests_own

  -- what a row says yes to, those above it do too
  up : (x y : Class) → row_of x ≤ row_of y → Every t (row_of x) (row_of y) columns
  unfolding row_of
  up Staff Staff h k l y = y
  up Staff Student h k l y = s.staffs k l y
  up Staff Guest h k l y = s.staffs k l (s.students k l y)
  up Student Staff h k l y = absurd (omega arith)
  up Student Student h k l y = y
  up Student Guest h k l y = s.students k l y
  up Guest Staff h k l y = absurd (omega arith)
  up Guest Student h k l y = absurd (omega arith)
  up Guest Guest h k l y = y

  pub may_own : (p q : ℕ) → q ≡ p → may_place t p q ≡ true
  unfolding may_place pixel_kind
  may_own p q e = rw (if_yes own (if (eqb q 0) nobodys (held_by (class_of q))) (test_eqb p q) (sym e)) (owns (class_of p))

  -- at others' pixels the column goes by the holder alone
  others : (p q h : ℕ) → (h ≡ p → ⊥) → (h ≡ q → ⊥) → pixel_kind p h ≡ pixel_kind q h
  unfolding pixel_kind
  others p q h n m = if_no own _ (test_eqb p h) (λ e. n (sym e)) ∙ sym (if_no own _ (test_eqb q h) (λ e. m (sym e)))

  rise_by : (p q h : ℕ) {b : Bool} → Test (h ≡ q) b → row_of (class_of q) ≤ row_of (class_of p) → (h ≡ p → ⊥) → may_place t p h ≡ true → may_place t q h ≡ true
  unfolding may_place
  rise_by p q h (holds e) l n y = may_own q h e
  rise_by p q h (fails m) l n y = up (class_of q) (class_of p) l (pixel_kind q h) (pixel_kind_lt q h) (rw (others p q h n m) at y)

  pub may_rise : (p q h : ℕ) → row_of (class_of q) ≤ row_of (class_of p) → (h ≡ p → ⊥) → may_place t p h ≡ true → may_place t q h ≡ true
  may_rise p q h = rise_by p q h (test_eqb h q)
