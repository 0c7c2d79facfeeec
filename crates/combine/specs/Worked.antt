-- Worked lines of combine, as one table. All are computed by the checker (proofs/CombineComputed.antt).
-- The first map is bed M of document 01, order 2, rows 5 5 0 0 / 5 5 0 9 / 9 0 9 9 / 0 0 9 9; the zones are drawn by
-- account 3 on the bed's north-western and south-eastern quadrants.
use Rattle.std.specs.Prelude.{◌≡◌, List, [], ◌∷◌, ℕ}
use Rattle.refusal.specs.Refusal.{accepted, account_zero, tiles_overlap, orders_differ, slots_exceeded}
use Rattle.refusal.specs.Checks.{After}
use Rattle.bed.specs.Worked.{words_m}
use Rattle.combine_rule.specs.declared.Choice.TheVariants.{Inside, Outside}
use Rattle.combine.specs.declared.CombineAnswer.{CombineAnswer}
use Rattle.combine.specs.Combine.{combine_of}

-- (0, 1, 3) (12, 1, 3), by corner, size, account, and a slot that is not used
unfoldable pub zones : List ℕ
zones = 67 ∷ 12355 ∷ 0 ∷ []

-- what a call gives: its number, the tile count, and what the third slice holds
abbrev pub answered : ℕ → ℕ → List ℕ → After CombineAnswer
answered number count out = record { answer = record { number = number; tiles = count }; storage = out }

-- three slots that hold something
unfoldable pub three_slots : List ℕ
three_slots = 1 ∷ 2 ∷ 3 ∷ []

pub record CombineLines : Type 0 where
  -- M's pixels inside the zones, and those outside
  pub inside : combine_of Inside 2 4 words_m 2 2 zones three_slots ≡ answered accepted 2 (69 ∷ 12361 ∷ 0 ∷ [])
  pub outside : combine_of Outside 2 4 words_m 2 2 zones three_slots ≡ answered accepted 2 (7177 ∷ 8201 ∷ 0 ∷ [])
  -- the other way round the account is the zones': the rule keeps the first map's
  pub zones_inside : combine_of Inside 2 2 zones 2 4 words_m three_slots ≡ answered accepted 2 (67 ∷ 12355 ∷ 0 ∷ [])
  -- a map with itself: all of it, and nothing
  pub itself : combine_of Inside 2 2 zones 2 2 zones three_slots ≡ answered accepted 2 (67 ∷ 12355 ∷ 0 ∷ [])
  pub nothing : combine_of Outside 2 2 zones 2 2 zones three_slots ≡ answered accepted 0 (0 ∷ 0 ∷ 0 ∷ [])
  -- held by one account, the bed stays one tile inside zones of several accounts that cover it: 7 over 1 2 / 1 2
  pub covered : combine_of Inside 2 1 (135 ∷ []) 2 4 (65 ∷ 4162 ∷ 8257 ∷ 12354 ∷ []) three_slots
      ≡ answered accepted 1 (135 ∷ 0 ∷ 0 ∷ [])
  -- four tiles of M lie outside an empty map of zones: three slots are too few
  pub too_few : combine_of Outside 2 4 words_m 2 0 [] three_slots ≡ answered slots_exceeded 0 three_slots
  -- the first map's refusal comes first, then the second's, then the orders
  pub first_first : combine_of Inside 2 3 zones 2 2 (67 ∷ 67 ∷ []) three_slots ≡ answered account_zero 0 three_slots
  pub second_then : combine_of Inside 2 2 zones 1 2 (67 ∷ 67 ∷ []) three_slots ≡ answered tiles_overlap 0 three_slots
  pub orders : combine_of Inside 2 2 zones 3 2 zones [] ≡ answered orders_differ 0 []
