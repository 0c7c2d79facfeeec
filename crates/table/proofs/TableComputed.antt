-- The worked lines of the table of rights, computed.
use mathlib.Core.Path.{refl}
use Rattle.basics.specs.Choice.{if}
use Rattle.refusal.specs.Checks.{must, unless}
use Rattle.table.specs.Table.{class_of, row_of, held_by, pixel_kind, says, may_place, old_table}
use Rattle.table.specs.Load.{bits_only, has_every, sound, table_check, table_of, load_check, load_of}
use Rattle.table.specs.Worked.{OldLines, LoadLines}

pub old_lines : OldLines
unfolding if class_of row_of held_by pixel_kind says may_place old_table
old_lines = record {
  staff_own = refl;
  staff_nobodys = refl;
  staff_guests = refl;
  staff_students = refl;
  staff_staffs = refl;
  student_own = refl;
  student_nobodys = refl;
  student_guests = refl;
  student_students = refl;
  student_staffs = refl;
  guest_own = refl;
  guest_nobodys = refl;
  guest_guests = refl;
  guest_students = refl;
  guest_staffs = refl;
  last_staff = refl;
  first_student = refl;
  last_student = refl;
  first_guest = refl;
}

pub load_lines : LoadLines
unfolding if must unless class_of row_of held_by pixel_kind says may_place old_table bits_only has_every sound table_check table_of load_check load_of
load_lines = record {
  old = refl;
  lab = refl;
  all = refl;
  lab_counts = refl;
  lab_guest = refl;
  helpers_guests = refl;
  helpers_students = refl;
  helpers_staff = refl;
  helpers_staffs = refl;
  zeros_count = refl;
  none_counts = refl;
  file_counts = refl;
  two_counts = refl;
  count_less = refl;
  count_more = refl;
  empty = refl;
  alone = refl;
  fewer = refl;
  more = refl;
  two_first = refl;
  two_last = refl;
  lent_fewer = refl;
  lent_more = refl;
  owns = refl;
  guest_own = refl;
  student_lacks = refl;
  staff_lack = refl;
  two_unsound = refl;
  keeps_any = refl;
}
