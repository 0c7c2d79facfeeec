-- The columns in the definition's order; those of others' pixels go by class.
use borrow.Author.Tests.{eq-eqb, ne_eqb}
use Rattle.std.proofs.Common.{refl, sym}
use Rattle.basics.specs.Choice.{if}
use Rattle.table.specs.Table.{held_by, pixel_kind}
use Rattle.table.proofs.Pixel.of.Goals as goal

pub returns-then-asking-holder : goal.returns-then-asking-holder
unfolding pixel_kind if
returns-then-asking-holder c = simp (eq-eqb _ _ c.if-asking-holder.true)

pub returns-then-holder-eq0 : goal.returns-then-holder-eq0
unfolding pixel_kind if
returns-then-holder-eq0 c = simp (ne_eqb _ _ c.if-asking-holder.false, eq-eqb _ _ c.if-holder-eq0.true)

pub returns-in-Guest : goal.returns-in-Guest
unfolding pixel_kind held_by if
returns-in-Guest c = simp (ne_eqb _ _ c.if-asking-holder.false, ne_eqb _ _ c.if-holder-eq0.false) (rw (sym c.in-Guest.ensures) refl)

pub returns-in-Student : goal.returns-in-Student
unfolding pixel_kind held_by if
returns-in-Student c = simp (ne_eqb _ _ c.if-asking-holder.false, ne_eqb _ _ c.if-holder-eq0.false) (rw (sym c.in-Student.ensures) refl)

pub returns-in-Staff : goal.returns-in-Staff
unfolding pixel_kind held_by if
returns-in-Staff c = simp (ne_eqb _ _ c.if-asking-holder.false, ne_eqb _ _ c.if-holder-eq0.false) (rw (sym c.in-Staff.ensures) refl)
