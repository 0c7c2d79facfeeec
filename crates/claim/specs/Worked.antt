-- Worked lines of previews, and of claims in the middle of a scan, on bed M of document 01 and others, as one table.
-- All are computed by the checker (proofs/ClaimComputed.antt).
use Rattle.std.specs.Prelude.{◌≡◌, List, [], ◌∷◌, ◌++◌, ℕ}
use Rattle.refusal.specs.Refusal.{accepted, order_too_large, count_above_slots, tiles_overlap, scanned_too_large}
use Rattle.refusal.specs.Refusal.{tile_unscanned, account_too_large, slots_exceeded, block_invalid, unscanned}
use Rattle.bed.specs.declared.Kind.TheVariants.{Rows, Morton}
use Rattle.bed.specs.declared.Scan.{Scan}
use Rattle.bed.specs.Places.{scan_of}
use Rattle.bed.specs.Worked.{words_m, slots_m}
use Rattle.claim.specs.declared.ClaimAnswer.{ClaimAnswer}
use Rattle.claim.specs.Claim.{claim_of}
use Rattle.claim.specs.Preview.{preview_of, Copies}

-- a copy of M's list, in as many slots as slots_m
abbrev pub copy_m : List ℕ
copy_m = words_m ++ 2 ∷ 3 ∷ []

abbrev pub five_slots : List ℕ
five_slots = words_m ++ 1 ∷ []

-- three quarters of a bed of order 1, in as many slots: (0, 0, 7) (1, 0, 7) (3, 0, 7)
abbrev pub three_slots : List ℕ
three_slots = 7 ∷ 1031 ∷ 3079 ∷ []

-- M's record, wholly scanned, and that of its first two rows, with the tiles that they have
abbrev pub scan_m : Scan
scan_m = scan_of Rows 2 16 4

abbrev pub halfway : Scan
halfway = scan_of Rows 2 8 2

abbrev pub answered : ℕ → ℕ → ClaimAnswer
answered number count = record { number = number; tiles = count }

pub record PreviewLines : Type 0 where
  -- releasing (3, size 0) would leave six tiles, for which five slots are too few; given to 9 it would leave seven
  pub release : preview_of scan_m slots_m 3 0 0 ≡ answered accepted 6
  pub five : preview_of scan_m five_slots 3 0 0 ≡ answered slots_exceeded 0
  pub split : preview_of scan_m slots_m 3 0 9 ≡ answered slots_exceeded 0
  -- on a copy of the list with as many slots the claims answer the same
  pub copy : Copies 4 slots_m copy_m
  pub copy_release : (claim_of scan_m copy_m 3 0 0).answer ≡ answered accepted 6
  pub copy_split : (claim_of scan_m copy_m 3 0 9).answer ≡ answered slots_exceeded 0
  -- 5 has it already: nothing would change, with all slots in use
  pub own : preview_of scan_m words_m 3 0 5 ≡ answered accepted 4
  -- the fourth quarter of a block completes it, and one tile takes the place of three
  pub merged : preview_of (scan_of Rows 1 4 3) three_slots 2 0 7 ≡ answered accepted 1
  -- the whole bed given to one account, and to nobody
  pub whole : preview_of scan_m slots_m 0 2 63 ≡ answered accepted 1
  pub nothing : preview_of scan_m slots_m 0 2 0 ≡ answered accepted 0
  -- the order is checked first, then the tile count, the list, the pixels scanned, the tiles against them, the block
  -- asked, whether it is scanned, the account, and the slots last: each line but the last would break later checks too
  pub order_first : preview_of (scan_of Rows 11 99 7) slots_m 3 1 64 ≡ answered order_too_large 0
  pub count_then : preview_of (scan_of Rows 2 99 7) slots_m 3 1 64 ≡ answered count_above_slots 0
  pub list_then : preview_of (scan_of Rows 2 99 5) slots_m 3 1 64 ≡ answered tiles_overlap 0
  pub pixels_then : preview_of (scan_of Rows 2 17 4) slots_m 3 1 64 ≡ answered scanned_too_large 0
  pub tiles_then : preview_of (scan_of Rows 2 15 4) slots_m 3 1 64 ≡ answered tile_unscanned 0
  pub halfway_block : preview_of halfway words_m 5 1 64 ≡ answered block_invalid 0
  pub halfway_then : preview_of halfway words_m 8 1 64 ≡ answered unscanned 0
  pub block_then : preview_of scan_m slots_m 3 1 64 ≡ answered block_invalid 0
  pub account_then : preview_of scan_m words_m 3 0 64 ≡ answered account_too_large 0
  -- on scanned ground a claim is taken halfway, a release too; no pixel of a block may be unscanned: all four of
  -- (8, size 1) are, and eight of (0, size 2)
  pub halfway_given : preview_of halfway slots_m 4 0 5 ≡ answered accepted 3
  pub halfway_release : preview_of halfway slots_m 0 1 0 ≡ answered accepted 1
  pub halfway_none : preview_of halfway slots_m 8 1 0 ≡ answered unscanned 0
  pub halfway_whole : preview_of halfway slots_m 0 2 0 ≡ answered unscanned 0
  -- refused, a claim leaves the slots; accepted, it leaves the list of the scan so far, and zeros
  pub halfway_kept : claim_of halfway slots_m 8 1 5 ≡ record { answer = answered unscanned 0; storage = slots_m }
  pub halfway_left : claim_of halfway slots_m 4 0 5
      ≡ record { answer = answered accepted 3; storage = 69 ∷ 4101 ∷ 7177 ∷ 0 ∷ 0 ∷ 0 ∷ [] }
  -- four pixels are by rows the first row, in Morton order the block NW
  pub rows_four : preview_of (scan_of Rows 2 4 0) slots_m 0 1 5 ≡ answered unscanned 0
  pub morton_four : preview_of (scan_of Morton 2 4 0) slots_m 0 1 5 ≡ answered accepted 1
  pub slots_last : preview_of scan_m words_m 3 0 9 ≡ answered slots_exceeded 0
