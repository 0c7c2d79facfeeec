-- Worked lines of files that are the same and files that are not, as one table, on bed M of document 01. All are
-- computed by the checker (proofs/Computed.antt).
--     in_five file   what reading a file to five slots answers and leaves
use Rattle.std.specs.Prelude.{◌≡◌, List, [], ◌∷◌, ◌++◌, ℕ, ◌^◌, take, drop, replicate}
use Rattle.refusal.specs.Refusal.{accepted, trailing_bytes, roster_wrong}
use Rattle.refusal.specs.Checks.{After}
use Rattle.bed.specs.declared.Kind.TheVariants.{Rows, Morton}
use Rattle.bed.specs.Places.{scan_of}
use Rattle.bed.specs.Worked.{words_m}
use Rattle.mapfile_read.specs.declared.ReadAnswer.{ReadAnswer}
use Rattle.mapfile_read.specs.Reader.{read_of}
use Rattle.mapfile_laws.specs.Worked.{file_m}
use Rattle.mapfile_same.specs.Same.{written}

abbrev pub in_five : List ℕ → After ReadAnswer
in_five file = read_of file (replicate 5 1)

pub record SameLines : Type 0 where
  -- the same tiles on a bed of order 3 are another bed, and its file has another first byte: both are accepted, and
  -- leave the same slots
  pub M : in_five file_m ≡ record {
    answer = record { number = accepted; order = 2; tiles = 4 };
    storage = words_m ++ 0 ∷ [];
  }
  pub M-larger : in_five (3 ∷ drop 1 file_m) ≡ record {
    answer = record { number = accepted; order = 3; tiles = 4 };
    storage = words_m ++ 0 ∷ [];
  }
  -- so it is with empty beds, of which nothing but the order is told
  pub smallest : written (scan_of Rows 0 1 0) [] (replicate 6 1) ≡ 0 ∷ replicate 5 0
  pub largest : written (scan_of Morton 10 (4 ^ 10) 0) [] (replicate 9 1) ≡ 10 ∷ replicate 5 0
  -- one byte more
  pub M-more : (in_five (file_m ++ 0 ∷ [])).answer.number ≡ trailing_bytes
  -- account 5 with the pixels of account 9 and the other way round, which is the same sum
  pub M-exchanged : (in_five (take 26 file_m ++ (6 ∷ 9 ∷ 0 ∷ 0 ∷ 0 ∷ 4 ∷ []))).answer.number ≡ roster_wrong
  -- why a file must be of bytes: 27 and 265 stand for the same number as 28 and 9
  pub no_bytes : in_five (take 11 file_m ++ (27 ∷ 265 ∷ drop 13 file_m)) ≡ in_five file_m
