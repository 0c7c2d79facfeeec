-- The starred lines of document 01's "Worked beds", as one table of the definitions. Each field is a line, in the
-- paper's order; all are computed by the checker (proofs/StarredComputed.antt).
use Rattle.std.specs.Prelude.{◌≡◌, List, [], ◌∷◌, map, ℕ, length, take, replicate}
use Rattle.refusal.specs.Refusal.{accepted, size_above_order, slots_exceeded}
use Rattle.refusal.specs.Checks.{After}
use Rattle.tile.specs.declared.Tile.{Tile}
use Rattle.tile.specs.Tile.{tile, word_of}
use Rattle.tile.specs.Slots.{tiles_in, filled}
use Rattle.quadtree.specs.Quadtree.{quadtree}
use Rattle.list_check.specs.ListCheck.{list_check}
use Rattle.bed.specs.declared.Kind.TheVariants.{Rows}
use Rattle.bed.specs.Places.{rows, scan_of}
use Rattle.bed.specs.Worked.{bed_m, rows_m, words_m, slots_m}
use Rattle.part.specs.Part.{part_of, slice_of}
use Rattle.scan.specs.FreshScan.{fresh_of}
use Rattle.scan.specs.Feed.{Fed, feed_of}
use Rattle.claim.specs.Claim.{claim_of}

abbrev pub tiles_m : List Tile
tiles_m = tile 0 1 5 ∷ tile 7 0 9 ∷ tile 8 0 9 ∷ tile 12 1 9 ∷ []

-- a fresh row scan of order n with m slots, fed once
abbrev pub row_scan : ℕ → ℕ → List ℕ → After Fed
row_scan n m bytes = let r = fresh_of Rows n (replicate m 1) in feed_of r.answer.scan r.storage bytes

abbrev pub fed : ℕ → ℕ → ℕ → ℕ → ℕ → List Tile → After Fed
fed number taken n s m ts = record {
  answer = record {
    number = number;
    taken = taken;
    scan = scan_of Rows n s (length ts);
  };
  storage = filled m ts;
}

pub record Starred : Type 0 where
  -- M's rows, and its tiles (corner, size, account): (0,1,5) (7,0,9) (8,0,9) (12,1,9)
  pub M-rows : rows 2 bed_m ≡ rows_m
  pub M-tiles : quadtree 2 bed_m ≡ tiles_m
  -- words 69, 7177, 8201, 12361
  pub M-words : map word_of tiles_m ≡ words_m
  -- row scan of M with 6 slots passes
  pub M-six-slots : row_scan 2 6 rows_m ≡ fed accepted 16 2 16 6 tiles_m
  -- with 5 it stops by 25, 14 taken
  pub M-five-slots : (row_scan 2 5 rows_m).answer.number ≡ slots_exceeded
  pub M-five-taken : (row_scan 2 5 rows_m).answer.taken ≡ 14
  -- order 1, all 7: 3 slots suffice, as the fourth pixel leaves one tile
  pub sevens_three_slots : row_scan 1 3 (7 ∷ 7 ∷ 7 ∷ 7 ∷ []) ≡ fed accepted 4 1 4 3 (tile 0 1 7 ∷ [])
  -- 2 slots stop by 25, 2 taken
  pub sevens_two_slots : row_scan 1 2 (7 ∷ 7 ∷ 7 ∷ 7 ∷ []) ≡ fed slots_exceeded 2 1 2 2 (tile 0 0 7 ∷ tile 1 0 7 ∷ [])
  -- order 0, account 0: no tile, with 0 slots
  pub empty_bed : row_scan 0 0 (0 ∷ []) ≡ fed accepted 1 0 1 0 []
  -- order 10, one tile of account 63 on the whole bed: word 703
  pub whole_bed : quadtree 10 (λ z. 63) ≡ tile 0 10 63 ∷ []
  pub whole_word : word_of (tile 0 10 63) ≡ 703
  pub whole_check : list_check 10 1 (703 ∷ []) ≡ accepted
  -- size 11 gives 12
  pub eleven_check : list_check 10 1 (word_of (tile 0 11 63) ∷ []) ≡ size_above_order
  -- on M, quadrant (4, size 1) is the one tile at position 1
  pub M-part : part_of 2 4 words_m 4 1 ≡ record { number = accepted; position = 1; length = 1 }
  pub M-part-slice : slice_of 2 4 words_m 4 1 ≡ 7177 ∷ []
  -- (12, size 0) is empty at position 3
  pub M-no-part : part_of 2 4 words_m 12 0 ≡ record { number = accepted; position = 3; length = 0 }
  -- on M, releasing (3, size 0) leaves six tiles, the first three (0,0,5) (1,0,5) (2,0,5)
  pub M-release : (claim_of (scan_of Rows 2 16 4) slots_m 3 0 0).answer ≡ record { number = accepted; tiles = 6 }
  pub M-released : take 3 (tiles_in 6 (claim_of (scan_of Rows 2 16 4) slots_m 3 0 0).storage)
      ≡ tile 0 0 5 ∷ tile 1 0 5 ∷ tile 2 0 5 ∷ []
