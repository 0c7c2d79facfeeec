-- Worked lines of the files that lists of calls write, as one table, on bed M of document 01. All are computed by the
-- checker (proofs/Computed.antt).
--     before         a record and six slots, which hold something else
--     file_after cs   the file that is written of what the calls cs leave there; none where the writer refuses
--     morton_m        M's accounts by Morton number
use Rattle.std.specs.Prelude.{◌≡◌, List, [], ◌∷◌, ℕ, take, drop, replicate}
use Rattle.bed.specs.declared.Kind.TheVariants.{Rows, Morton}
use Rattle.bed.specs.Places.{scan_of}
use Rattle.bed.specs.Worked.{rows_m}
use Rattle.mapfile_laws.specs.Worked.{file_m}
use Rattle.mapfile_same.specs.Same.{written}
use Rattle.demands.specs.Calls.{Call, fresh, feed, claim, read, State, left}

abbrev pub before : State
before = record { scan = scan_of Morton 7 3 2; slots = replicate 6 1 }

abbrev pub file_after : List Call → List ℕ
file_after cs = written (left before cs).scan (left before cs).slots (replicate 40 1)

abbrev pub morton_m : List ℕ
morton_m = 5 ∷ 5 ∷ 5 ∷ 5 ∷ 0 ∷ 0 ∷ 0 ∷ 9 ∷ 9 ∷ 0 ∷ 0 ∷ 0 ∷ 9 ∷ 9 ∷ 9 ∷ 9 ∷ []

pub record FileLines : Type 0 where
  -- M by rows
  pub by_rows : file_after (fresh Rows 2 ∷ feed rows_m ∷ []) ≡ file_m
  -- in Morton order, in two feeds
  pub by_morton : file_after (fresh Morton 2 ∷ feed (take 7 morton_m) ∷ feed (drop 7 morton_m) ∷ []) ≡ file_m
  -- by claims on an empty bed, the last tile first
  pub by_claims : file_after (fresh Rows 2 ∷ feed (replicate 16 0) ∷ claim 12 1 9 ∷ claim 8 0 9 ∷ claim 7 0 9
      ∷ claim 0 1 5 ∷ []) ≡ file_m
  -- with a claim that is released again, and one that is refused
  pub by_release : file_after (fresh Morton 2 ∷ feed morton_m ∷ claim 9 0 3 ∷ claim 9 0 0 ∷ claim 9 0 64 ∷ []) ≡ file_m
  -- and read, over another bed
  pub by_reading : file_after (fresh Morton 1 ∷ feed (7 ∷ 7 ∷ []) ∷ read file_m ∷ []) ≡ file_m
  -- with one pixel more, nobody's before, it is another file; with one not scanned there is none
  pub one_more : file_after (read file_m ∷ claim 9 0 9 ∷ []) ≡
      2 ∷ 0 ∷ 0 ∷ 0 ∷ 5 ∷ 0 ∷ 0 ∷ 0 ∷ 69 ∷ 0 ∷ 0 ∷ 28 ∷ 9 ∷ 0 ∷ 0 ∷ 32 ∷ 9 ∷ 0 ∷ 0 ∷ 36 ∷ 9 ∷ 0 ∷ 0 ∷ 48 ∷ 73
      ∷ 2 ∷ 5 ∷ 0 ∷ 0 ∷ 0 ∷ 4 ∷ 9 ∷ 0 ∷ 0 ∷ 0 ∷ 7 ∷ []
  pub unfinished : file_after (fresh Morton 2 ∷ feed (take 15 morton_m) ∷ []) ≡ []
