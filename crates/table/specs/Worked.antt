-- Worked lines of the table of rights: document 01's table cell by cell, loads that pass and loads that do not. All are
-- computed by the checker (proofs/TableComputed.antt). Accounts 3 and 5 are staff, 9 and 12 students, 50 and 60 guests.
use Rattle.std.specs.Prelude.{◌≡◌, true, false, List, [], ◌∷◌, ◌++◌, ℕ, drop, replicate}
use Rattle.refusal.specs.Refusal.{accepted, table_malformed, table_unsound}
use Rattle.refusal.specs.Checks.{After}
use Rattle.table.specs.Table.{old_table, may_place}
use Rattle.table.specs.Load.{table_length, table_of, load_of}

-- document 01's rows, by one asker of each class: own pixel, nobody's, another guest's, student's, staff member's
pub record OldLines : Type 0 where
  pub staff_own : may_place old_table 3 3 ≡ true
  pub staff_nobodys : may_place old_table 3 0 ≡ true
  pub staff_guests : may_place old_table 3 60 ≡ true
  pub staff_students : may_place old_table 3 9 ≡ true
  pub staff_staffs : may_place old_table 3 5 ≡ false
  pub student_own : may_place old_table 12 12 ≡ true
  pub student_nobodys : may_place old_table 12 0 ≡ true
  pub student_guests : may_place old_table 12 60 ≡ false
  pub student_students : may_place old_table 12 9 ≡ false
  pub student_staffs : may_place old_table 12 5 ≡ false
  pub guest_own : may_place old_table 50 50 ≡ true
  pub guest_nobodys : may_place old_table 50 0 ≡ false
  pub guest_guests : may_place old_table 50 60 ≡ false
  pub guest_students : may_place old_table 50 9 ≡ false
  pub guest_staffs : may_place old_table 50 5 ≡ false
  -- the classes' last and first accounts: at another student's pixel, and at nobody's
  pub last_staff : may_place old_table 7 9 ≡ true
  pub first_student : may_place old_table 8 9 ≡ false
  pub last_student : may_place old_table 47 0 ≡ true
  pub first_guest : may_place old_table 48 0 ≡ false

-- the lab's wish: guests on nobody's pixels during workshops
abbrev pub workshop : List ℕ
workshop =
    1 ∷ 1 ∷ 1 ∷ 1 ∷ 0 ∷
    1 ∷ 1 ∷ 0 ∷ 0 ∷ 0 ∷
    1 ∷ 1 ∷ 0 ∷ 0 ∷ 0 ∷ []

-- students on guests' pixels, and not on students': here no two columns of others' pixels are alike
abbrev pub helpers : List ℕ
helpers =
    1 ∷ 1 ∷ 1 ∷ 1 ∷ 0 ∷
    1 ∷ 1 ∷ 1 ∷ 0 ∷ 0 ∷
    1 ∷ 0 ∷ 0 ∷ 0 ∷ 0 ∷ []

abbrev pub ones : List ℕ
ones = replicate table_length 1

abbrev pub zeros : List ℕ
zeros = replicate table_length 0

abbrev pub left : ℕ → List ℕ → After ℕ
left number table = record { answer = number; storage = table }

pub record LoadLines : Type 0 where
  pub old : load_of (15 ∷ old_table) zeros ≡ left accepted old_table
  pub lab : load_of (15 ∷ workshop) old_table ≡ left accepted workshop
  pub all : load_of (15 ∷ ones) workshop ≡ left accepted ones
  -- the lab's table counts, and by it a guest may place on nobody's pixels
  pub lab_counts : table_of workshop ≡ workshop
  pub lab_guest : may_place (table_of workshop) 50 0 ≡ true
  -- the columns by the holder's class, at the classes' limits
  pub helpers_guests : may_place (table_of helpers) 12 48 ≡ true
  pub helpers_students : may_place (table_of helpers) 12 47 ≡ false
  pub helpers_staff : may_place (table_of helpers) 3 8 ≡ true
  pub helpers_staffs : may_place (table_of helpers) 3 7 ≡ false
  -- what no load would accept counts as the old table
  pub zeros_count : table_of zeros ≡ old_table
  pub none_counts : table_of [] ≡ old_table
  pub file_counts : table_of (15 ∷ workshop) ≡ old_table
  pub two_counts : table_of (2 ∷ drop 1 workshop) ≡ old_table
  -- 55: another count, no file, a byte fewer or more, a byte of 2, first or last, too few or too many bytes lent
  pub count_less : load_of (14 ∷ workshop) old_table ≡ left table_malformed old_table
  pub count_more : load_of (16 ∷ workshop) old_table ≡ left table_malformed old_table
  pub empty : load_of [] old_table ≡ left table_malformed old_table
  pub alone : load_of (15 ∷ []) old_table ≡ left table_malformed old_table
  pub fewer : load_of (15 ∷ drop 1 ones) old_table ≡ left table_malformed old_table
  pub more : load_of (15 ∷ 1 ∷ ones) old_table ≡ left table_malformed old_table
  pub two_first : load_of (15 ∷ 2 ∷ drop 1 ones) old_table ≡ left table_malformed old_table
  pub two_last : load_of (15 ∷ replicate 14 1 ++ (2 ∷ [])) old_table ≡ left table_malformed old_table
  pub lent_fewer : load_of (15 ∷ workshop) (drop 1 zeros) ≡ left table_malformed (drop 1 zeros)
  pub lent_more : load_of (15 ∷ workshop) (0 ∷ zeros) ≡ left table_malformed (0 ∷ zeros)
  -- 56: no row has its own pixels; the guest's row has not; a guest's yes that a student lacks, in the last column; a
  -- student's that staff lack
  pub owns : load_of (15 ∷ zeros) workshop ≡ left table_unsound workshop
  pub guest_own :
      load_of (15 ∷ 1 ∷ 1 ∷ 1 ∷ 1 ∷ 0 ∷ 1 ∷ 1 ∷ 0 ∷ 0 ∷ 0 ∷ 0 ∷ 0 ∷ 0 ∷ 0 ∷ 0 ∷ []) workshop
      ≡ left table_unsound workshop
  pub student_lacks :
      load_of (15 ∷ 1 ∷ 1 ∷ 1 ∷ 1 ∷ 1 ∷ 1 ∷ 1 ∷ 0 ∷ 0 ∷ 0 ∷ 1 ∷ 0 ∷ 0 ∷ 0 ∷ 1 ∷ []) workshop
      ≡ left table_unsound workshop
  pub staff_lack :
      load_of (15 ∷ 1 ∷ 1 ∷ 1 ∷ 0 ∷ 0 ∷ 1 ∷ 1 ∷ 0 ∷ 1 ∷ 0 ∷ 1 ∷ 0 ∷ 0 ∷ 0 ∷ 0 ∷ []) workshop
      ≡ left table_unsound workshop
  -- 55 before 56: a byte of 2 in a table in which no row has its own pixels; and a refused load keeps a table in force
  -- that no load would accept
  pub two_unsound : load_of (15 ∷ 2 ∷ drop 1 zeros) workshop ≡ left table_malformed workshop
  pub keeps_any : load_of (15 ∷ zeros) (replicate table_length 255) ≡ left table_unsound (replicate table_length 255)
