-- Lines of document 01's "Worked beds" on the plain bed, and lines of document 02, request 5, as one table. All are
-- computed by the checker (proofs/BedComputed.antt).
--     row_scan n m bytes      a fresh row scan of order n with m slots, fed once
--     Says r number taken    the feed r ended by the number, with so many pixels taken
use Rattle.std.specs.Prelude.{◌≡◌, List, [], ◌∷◌, ◌++◌, ℕ, take, drop, get_or}
use Rattle.refusal.specs.Refusal.{accepted, tile_unscanned, scan_full, account_too_large, slots_exceeded}
use Rattle.refusal.specs.Refusal.{block_invalid, unscanned}
use Rattle.bed.specs.declared.Kind.{Kind}
use Rattle.bed.specs.declared.Kind.TheVariants.{Rows, Morton}
use Rattle.bed.specs.Places.{rows}
use Rattle.bed.specs.Bed.{Bed, bed_of, BedFed, fresh_bed, feed_bed, claimed, claim_bed_check}

-- bed M, order 2, by Morton number, by rows, and as the words of its list: (0, 1, 5) (7, 0, 9) (8, 0, 9) (12, 1, 9), by
-- corner, size, account
abbrev pub bed_m : ℕ → ℕ
bed_m z = get_or (5 ∷ 5 ∷ 5 ∷ 5 ∷ 0 ∷ 0 ∷ 0 ∷ 9 ∷ 9 ∷ 0 ∷ 0 ∷ 0 ∷ 9 ∷ 9 ∷ 9 ∷ 9 ∷ []) z 0

abbrev pub rows_m : List ℕ
rows_m = 5 ∷ 5 ∷ 0 ∷ 0 ∷ 5 ∷ 5 ∷ 0 ∷ 9 ∷ 9 ∷ 0 ∷ 9 ∷ 9 ∷ 0 ∷ 0 ∷ 9 ∷ 9 ∷ []

abbrev pub words_m : List ℕ
words_m = 69 ∷ 7177 ∷ 8201 ∷ 12361 ∷ []

-- the list in six slots, of which the last two hold other words
abbrev pub slots_m : List ℕ
slots_m = words_m ++ 1 ∷ 1 ∷ []

-- the bed M, wholly scanned
abbrev pub whole_m : Bed
whole_m = bed_of Rows 2 16 bed_m

-- a bed of order 2 by rows with the first row scanned, on which somebody already has the pixel (1, 1), of number 3
abbrev pub held_early : Bed
held_early = bed_of Rows 2 4 (claimed (λ z. 0) 3 0 5)

-- a nobody's bed of order 2 of which s pixels are scanned
abbrev pub nobodys : Kind → ℕ → Bed
nobodys k s = bed_of k 2 s (λ z. 0)

abbrev pub row_scan : ℕ → ℕ → List ℕ → BedFed
row_scan n m bytes = feed_bed m (fresh_bed Rows n) bytes

abbrev pub Says : BedFed → ℕ → ℕ → Type 0
Says r number taken = (r.number ≡ number) × (r.taken ≡ taken)

pub record PlainLines : Type 0 where
  -- row scan of M with 6 slots passes, and leaves M; so it does in two feeds
  pub M-six-slots : Says (row_scan 2 6 rows_m) accepted 16
  pub M-scanned : rows 2 (row_scan 2 6 rows_m).bed.account ≡ rows_m
  pub M-two-feeds : Says (feed_bed 6 (row_scan 2 6 (take 9 rows_m)).bed (drop 9 rows_m)) accepted 7
  -- with 5 it stops by 25, 14 taken
  pub M-five-slots : Says (row_scan 2 5 rows_m) slots_exceeded 14
  -- a pixel fed past the bed gives 23
  pub M-one-more : Says (row_scan 2 6 (rows_m ++ 0 ∷ [])) scan_full 16
  -- order 1, all 7: 3 slots suffice, 2 slots stop by 25, 2 taken
  pub sevens_three_slots : Says (row_scan 1 3 (7 ∷ 7 ∷ 7 ∷ 7 ∷ [])) accepted 4
  pub sevens_two_slots : Says (row_scan 1 2 (7 ∷ 7 ∷ 7 ∷ 7 ∷ [])) slots_exceeded 2
  -- order 0, account 0: no tile, with 0 slots
  pub empty_bed : Says (row_scan 0 0 (0 ∷ [])) accepted 1
  -- account 63 passes, 64 gives 24, fed and claimed
  pub fed_63 : Says (row_scan 0 1 (63 ∷ [])) accepted 1
  pub fed_64 : Says (row_scan 0 1 (64 ∷ [])) account_too_large 0
  pub claimed_63 : claim_bed_check 6 whole_m 8 0 63 ≡ accepted
  pub claimed_64 : claim_bed_check 6 whole_m 8 0 64 ≡ account_too_large
  -- on M, releasing (3, size 0) leaves six tiles
  pub M-release : claim_bed_check 6 whole_m 3 0 0 ≡ accepted
  pub M-no-release : claim_bed_check 5 whole_m 3 0 0 ≡ slots_exceeded
  pub M-released : rows 2 (claimed bed_m 3 0 0)
      ≡ 5 ∷ 5 ∷ 0 ∷ 0 ∷ 5 ∷ 0 ∷ 0 ∷ 9 ∷ 9 ∷ 0 ∷ 9 ∷ 9 ∷ 0 ∷ 0 ∷ 9 ∷ 9 ∷ []
  -- somebody's pixel that is unscanned gives 22, to a feed and to a claim; no list of calls leaves such a bed
  pub unscanned_fed : Says (feed_bed 6 held_early rows_m) tile_unscanned 0
  pub unscanned_claimed : claim_bed_check 6 held_early 0 3 64 ≡ tile_unscanned
  -- four pixels scanned are by rows the first row, in Morton order the block NW, (0, size 1)
  pub rows_scanned : claim_bed_check 6 (nobodys Rows 4) 5 0 5 ≡ accepted
  pub rows_unscanned : claim_bed_check 6 (nobodys Rows 4) 0 1 5 ≡ unscanned
  pub morton_scanned : claim_bed_check 6 (nobodys Morton 4) 0 1 5 ≡ accepted
  pub morton_unscanned : claim_bed_check 6 (nobodys Morton 4) 5 0 5 ≡ unscanned
  -- (0, size 1) by rows ends with the sixth pixel: with five its last one is missing
  pub rows_last : claim_bed_check 6 (nobodys Rows 6) 0 1 5 ≡ accepted
  pub rows_but_last : claim_bed_check 6 (nobodys Rows 5) 0 1 5 ≡ unscanned
  -- a release too, and before the account and the slots are looked at, but behind the block
  pub release_unscanned : claim_bed_check 6 (nobodys Rows 6) 4 1 0 ≡ unscanned
  pub unscanned_first : claim_bed_check 0 (nobodys Rows 6) 4 1 64 ≡ unscanned
  pub block_first : claim_bed_check 0 (nobodys Rows 6) 5 1 64 ≡ block_invalid
