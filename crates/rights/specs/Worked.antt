-- Worked lines of rights, as one table, on bed M of document 01, whose pixel (3, 1) is account 9's and (2, 0) nobody's.
-- Account 3 is staff, 9 and 12 are students, 50 is a guest. Where [] is handed in, there is no table, and the old one
-- counts. All are computed by the checker (proofs/RightsComputed.antt).
use Rattle.std.specs.Prelude.{◌≡◌, true, false, [], ◌∷◌}
use Rattle.refusal.specs.Refusal.{accepted, tile_unscanned, point_outside, asker_invalid, unscanned}
use Rattle.bed.specs.declared.Kind.TheVariants.{Rows}
use Rattle.bed.specs.declared.Scan.{Scan}
use Rattle.bed.specs.Places.{scan_of}
use Rattle.bed.specs.Worked.{slots_m}
use Rattle.table.specs.Worked.{workshop, zeros}
use Rattle.rights.specs.Rights.{rights_of}
use Rattle.rights.specs.Promises.{answered}

-- all of M; and a bed of its order with four pixels scanned, all nobody's
abbrev pub scan_m : Scan
scan_m = scan_of Rows 2 16 4

abbrev pub row_m : Scan
row_m = scan_of Rows 2 4 0

pub record RightsLines : Type 0 where
  pub own : rights_of [] scan_m slots_m 3 1 9 ≡ answered accepted true
  pub students : rights_of [] scan_m slots_m 3 1 12 ≡ answered accepted false
  pub staff : rights_of [] scan_m slots_m 3 1 3 ≡ answered accepted true
  pub nobodys : rights_of [] scan_m slots_m 2 0 12 ≡ answered accepted true
  pub guest : rights_of [] scan_m slots_m 2 0 50 ≡ answered accepted false
  -- during a workshop the guest may; a table that no load would accept, here zeros or a whole file, counts as the old
  pub workshop_nobodys : rights_of workshop scan_m slots_m 2 0 50 ≡ answered accepted true
  pub workshop_students : rights_of workshop scan_m slots_m 3 1 50 ≡ answered accepted false
  pub zeros_nobodys : rights_of zeros scan_m slots_m 2 0 50 ≡ answered accepted false
  pub zeros_own : rights_of zeros scan_m slots_m 3 1 9 ≡ answered accepted true
  pub file_nobodys : rights_of (15 ∷ workshop) scan_m slots_m 2 0 50 ≡ answered accepted false
  -- a student may place on nobody's pixel once it is scanned; before that no account may, whatever the table
  pub row_nobodys : rights_of [] row_m slots_m 3 0 12 ≡ answered accepted true
  pub row_unscanned : rights_of [] row_m slots_m 0 1 12 ≡ answered unscanned false
  pub row_staff : rights_of [] row_m slots_m 0 1 3 ≡ answered unscanned false
  pub row_workshop : rights_of workshop row_m slots_m 0 1 50 ≡ answered unscanned false
  -- 22, 31, 52, 34, in this order: each line would break later checks too, but the last
  pub tiles_first : rights_of [] (scan_of Rows 2 4 4) slots_m 4 1 0 ≡ answered tile_unscanned false
  pub point_then : rights_of [] row_m slots_m 4 1 0 ≡ answered point_outside false
  pub unscanned_then : rights_of [] row_m slots_m 0 1 0 ≡ answered unscanned false
  pub asker_last : rights_of [] row_m slots_m 3 0 0 ≡ answered asker_invalid false
