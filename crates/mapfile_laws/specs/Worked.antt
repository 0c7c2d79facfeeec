-- Worked lines of totals, as one table, on bed M of document 01. All are computed by the checker
-- (proofs/Computed.antt). M has order 2, the rows 5 5 0 0 / 5 5 0 9 / 9 0 9 9 / 0 0 9 9, and the tiles (0, 1, 5)
-- (7, 0, 9) (8, 0, 9) (12, 1, 9), by corner, size, account.
use Rattle.std.specs.Prelude.{◌≡◌, List, [], ◌∷◌, ◌++◌, ℕ, take, replicate}
use Rattle.refusal.specs.Refusal.{accepted, roster_wrong, unscanned}
use Rattle.tile.specs.Slots.{tiles_in}
use Rattle.bed.specs.declared.Kind.TheVariants.{Rows, Morton}
use Rattle.bed.specs.Places.{scan_of}
use Rattle.bed.specs.Worked.{rows_m, words_m}
use Rattle.decode.specs.Decode.{decode_of}
use Rattle.mapfile_roster.specs.Roster.{covered}
use Rattle.mapfile_read.specs.Reader.{read_of}
use Rattle.mapfile_write.specs.Writer.{write_of}
use Rattle.mapfile_laws.specs.Totals.{occurs, file_entries}

-- order; tile count; the four words; two entries: account 5 with 4 pixels, account 9 with 6
unfoldable pub file_m : List ℕ
file_m =
    2 ∷ 0 ∷ 0 ∷ 0 ∷ 4 ∷ 0 ∷ 0 ∷ 0 ∷ 69 ∷ 0 ∷ 0 ∷ 28 ∷ 9 ∷ 0 ∷ 0 ∷ 32 ∷ 9 ∷ 0 ∷ 0 ∷ 48 ∷ 73
    ∷ 2 ∷ 5 ∷ 0 ∷ 0 ∷ 0 ∷ 4 ∷ 9 ∷ 0 ∷ 0 ∷ 0 ∷ 6 ∷ []

pub record TotalLines : Type 0 where
  -- decoded, M's list gives its rows, written, its file, and that is read back
  pub M-decoded : (decode_of 2 4 words_m (replicate 16 1)).storage ≡ rows_m
  pub M-written : write_of (scan_of Rows 2 16 4) words_m (replicate 33 1) ≡ record {
    answer = record { number = accepted; length = 32 };
    storage = file_m ++ 1 ∷ [];
  }
  -- so it is where M was scanned in Morton order; of an unfinished scan, as one with three of M's tiles and one pixel
  -- short of the bed, no file is written, and that is told before the bytes are looked at; nor of a pixel not scanned
  pub M-morton : (write_of (scan_of Morton 2 16 4) words_m (replicate 33 1)).storage ≡ file_m ++ 1 ∷ []
  pub M-short : write_of (scan_of Rows 2 15 3) (69 ∷ 7177 ∷ 8201 ∷ []) [] ≡ record {
    answer = record { number = unscanned; length = 0 };
    storage = [];
  }
  pub none_scanned : (write_of (scan_of Rows 0 0 0) [] (replicate 6 1)).answer.number ≡ unscanned
  pub M-read : read_of file_m (replicate 5 1) ≡ record {
    answer = record { number = accepted; order = 2; tiles = 4 };
    storage = words_m ++ 0 ∷ [];
  }
  -- account 5 has one tile and four pixels, account 9 has three tiles and six pixels
  pub M-tiles-5 : covered 5 (tiles_in 4 words_m) ≡ 4
  pub M-rows-5 : occurs 5 rows_m ≡ 4
  pub M-tiles-9 : covered 9 (tiles_in 4 words_m) ≡ 6
  pub M-rows-9 : occurs 9 rows_m ≡ 6
  pub M-entries : file_entries file_m
      ≡ record { account = 5; pixels = 4 } ∷ record { account = 9; pixels = 6 } ∷ []
  -- three for account 9, which is the number of its tiles, is refused, and so is one pixel too many
  pub M-tiles-for-pixels : (read_of (take 31 file_m ++ 3 ∷ []) (replicate 5 1)).answer.number ≡ roster_wrong
  pub M-one-more : (read_of (take 31 file_m ++ 7 ∷ []) (replicate 5 1)).answer.number ≡ roster_wrong
  -- account 0 has no tile, though six pixels: accounts are from 1 on
  pub M-tiles-0 : covered 0 (tiles_in 4 words_m) ≡ 0
  pub M-rows-0 : occurs 0 rows_m ≡ 6
  -- an empty bed's roster has no entry; one tile of order 10 has all 4^10 pixels
  pub empty_written : (write_of (scan_of Rows 0 1 0) [] (replicate 6 1)).storage ≡ 0 ∷ 0 ∷ 0 ∷ 0 ∷ 0 ∷ 0 ∷ []
  pub whole_bed : covered 63 (tiles_in 1 (703 ∷ [])) ≡ 1048576
