-- Worked lines of lookup, as one table: bed M of document 01, whose list is (0, 1, 5) (7, 0, 9) (8, 0, 9) (12, 1, 9) by
-- corner, size, account, beds with free ground, and scans in the middle. All are computed by the checker
-- (proofs/LookupComputed.antt).
use Rattle.std.specs.Prelude.{◌≡◌, [], ◌∷◌, ℕ, ◌^◌}
use Rattle.refusal.specs.Refusal.{account_zero, scanned_too_large, tile_unscanned, point_outside, unscanned}
use Rattle.tile.specs.Tile.{tile}
use Rattle.bed.specs.declared.Kind.TheVariants.{Rows, Morton}
use Rattle.bed.specs.declared.Scan.{Scan}
use Rattle.bed.specs.Places.{scan_of}
use Rattle.bed.specs.Worked.{slots_m}
use Rattle.lookup.specs.declared.LookupAnswer.{LookupAnswer}
use Rattle.lookup.specs.Lookup.{found_of, lookup_of}

-- the record by rows of order n with t tiles, of which every pixel is scanned
abbrev pub whole : ℕ → ℕ → Scan
whole n t = scan_of Rows n (4 ^ n) t

abbrev pub refused : ℕ → LookupAnswer
refused number = record { number = number; account = 0; corner = 0; size = 0 }

pub record LookupLines : Type 0 where
  -- "On M column 3 passes": pixel (3, 1), number 7, is a tile of its own
  pub M-pixel : lookup_of (whole 2 4) slots_m 3 1 ≡ found_of (tile 7 0 9)
  -- pixel (3, 2), number 13, lies under the tile (12, 1): the quadrant part of (13, size 0) is empty
  pub M-under : lookup_of (whole 2 4) slots_m 3 2 ≡ found_of (tile 12 1 9)
  -- pixel (2, 0), number 4, is nobody's, but not all of its quadrant is: 7 is account 9's
  pub M-free : lookup_of (whole 2 4) slots_m 2 0 ≡ found_of (tile 4 0 0)
  -- with 7 nobody's, the quadrant is free, and it starts and stops where its neighbours stop and start
  pub quadrant_free : lookup_of (whole 2 3) (69 ∷ 8201 ∷ 12361 ∷ []) 2 0 ≡ found_of (tile 4 1 0)
  -- 5 to 15 are free: around 5 only the pixel, around 8 its quadrant, though the stretch is longer
  pub stretch_start : lookup_of (whole 2 2) (69 ∷ 4101 ∷ []) 3 0 ≡ found_of (tile 5 0 0)
  pub stretch_on : lookup_of (whole 2 2) (69 ∷ 4101 ∷ []) 0 2 ≡ found_of (tile 8 1 0)
  -- between the first pixel and the last, 1 to 62 are free: around 30 the quadrant NE, which starts at 16
  pub between : lookup_of (whole 3 2) (5 ∷ 64521 ∷ []) 6 3 ≡ found_of (tile 16 2 0)
  -- an empty bed, wholly scanned, is one free block
  pub empty : lookup_of (whole 3 0) [] 5 6 ≡ found_of (tile 0 3 0)
  pub empty_pixel : lookup_of (whole 0 0) [] 0 0 ≡ found_of (tile 0 0 0)
  -- ".. 4 gives 31"; a refusal has 0 in all
  pub M-outside : lookup_of (whole 2 4) slots_m 4 1 ≡ refused point_outside
  -- a word of account 0 comes before the point
  pub damaged : lookup_of (whole 2 1) (64 ∷ []) 4 1 ≡ refused account_zero
  -- of a nobody's bed of order 2, ten pixels scanned by rows: two rows, and two pixels of the third. The block NW is
  -- scanned, of the block SW, from 8 on, only its northern pixels are
  pub rows_free : lookup_of (scan_of Rows 2 10 0) [] 1 0 ≡ found_of (tile 0 1 0)
  pub rows_front : lookup_of (scan_of Rows 2 10 0) [] 1 2 ≡ found_of (tile 9 0 0)
  pub rows_unscanned : lookup_of (scan_of Rows 2 10 0) [] 2 2 ≡ refused unscanned
  -- the same in Morton order: the blocks NW and NE, and two pixels of SW
  pub morton_free : lookup_of (scan_of Morton 2 10 0) [] 2 0 ≡ found_of (tile 4 1 0)
  pub morton_front : lookup_of (scan_of Morton 2 10 0) [] 1 2 ≡ found_of (tile 9 0 0)
  pub morton_unscanned : lookup_of (scan_of Morton 2 10 0) [] 0 3 ≡ refused unscanned
  -- four pixels are by rows the first row, in Morton order the block NW
  pub rows_four : lookup_of (scan_of Rows 2 4 0) [] 3 0 ≡ found_of (tile 5 0 0)
  pub rows_four_not : lookup_of (scan_of Rows 2 4 0) [] 0 1 ≡ refused unscanned
  pub morton_four : lookup_of (scan_of Morton 2 4 0) [] 0 1 ≡ found_of (tile 0 1 0)
  pub morton_four_not : lookup_of (scan_of Morton 2 4 0) [] 3 0 ≡ refused unscanned
  -- the one pixel of a bed of order 0, before it is scanned
  pub none_scanned : lookup_of (scan_of Rows 0 0 0) [] 0 0 ≡ refused unscanned
  -- a tile is named whole, in the middle of a scan too
  pub tile_halfway : lookup_of (scan_of Rows 2 8 2) slots_m 0 1 ≡ found_of (tile 0 1 5)
  -- 21 and 22 come right behind the list's checks, 31 before 52
  pub pixels_first : lookup_of (scan_of Rows 2 17 4) slots_m 4 1 ≡ refused scanned_too_large
  pub tiles_then : lookup_of (scan_of Rows 2 15 4) slots_m 4 1 ≡ refused tile_unscanned
  pub outside_then : lookup_of (scan_of Rows 2 8 2) slots_m 4 3 ≡ refused point_outside
