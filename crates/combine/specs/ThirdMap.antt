-- What an accepted combine leaves, in a reader's terms: a map again, and the one that document 02 asks for. Definitions
-- only.
--     tiles_left x                     the list left
--     ThirdMap rule n t s u w out x   x is what the call gave, of two maps of order n, the lists in the first t slots of
--                                     s and in the first u slots of w, and of the slots `out`, by any pixel rule
--     ThirdScanned                    with the kind and the pixels scanned of the first map's record it passes the
--                                     opening checks, if the first map does (document 02, request 5)
use Rattle.std.specs.Prelude.{◌≡◌, List, ℕ, ◌-◌, ◌^◌, ◌≤◌, ◌<◌, length, drop, replicate}
use Rattle.refusal.specs.Refusal.{accepted}
use Rattle.refusal.specs.Checks.{After}
use Rattle.tile.specs.declared.Tile.{Tile}
use Rattle.tile.specs.Slots.{tiles_in}
use Rattle.quadtree.specs.Raster.{account_at, Shows}
use Rattle.quadtree.specs.Quadtree.{LinearQuadtree}
use Rattle.list_check.specs.ListCheck.{list_check}
use Rattle.bed.specs.declared.Scan.{Scan}
use Rattle.bed.specs.Places.{scan_of}
use Rattle.scan_check.specs.Opening.{opening}
use Rattle.combine_rule.specs.declared.Choice.{Choice}
use Rattle.combine_rule.specs.Rule.{third_raster}
use Rattle.combine.specs.declared.CombineAnswer.{CombineAnswer}
use Rattle.combine.specs.Combine.{combine_of}

abbrev pub tiles_left : After CombineAnswer → List Tile
tiles_left x = tiles_in x.answer.tiles x.storage

pub record ThirdMap (rule : ℕ → ℕ → ℕ) (n t : ℕ) (s : List ℕ) (u : ℕ) (w out : List ℕ) (x : After CombineAnswer)
    : Type 0 where
  -- "with unused slots 0", and as many slots as were lent
  pub lent : length x.storage ≡ length out
  pub rest : drop x.answer.tiles x.storage ≡ replicate (length out - x.answer.tiles) 0
  -- it passes the list checks
  pub checks : list_check n x.answer.tiles x.storage ≡ accepted
  -- each pixel has what the rule makes of the two maps' pixels
  pub pixels : (z : ℕ) → z < 4 ^ n →
      account_at (tiles_left x) z ≡ rule (account_at (tiles_in t s) z) (account_at (tiles_in u w) z)
  -- "the linear quadtree of that pixel rule"
  pub linear : LinearQuadtree n (third_raster rule t s u w) (tiles_left x)
  -- no list of quadrant tiles that shows this raster has fewer tiles
  pub least : (ts : List Tile) → Shows n (third_raster rule t s u w) ts → x.answer.tiles ≤ length ts

-- the third map holds nothing that the first does not; every call on a scan takes it so
abbrev pub ThirdScanned : Type 0
ThirdScanned = (choice : Choice) (scan : Scan) (s : List ℕ) (m u : ℕ) (w out : List ℕ) →
    let third : After CombineAnswer = combine_of choice scan.order scan.tiles s m u w out in
    opening scan s ≡ accepted → third.answer.number ≡ accepted →
    opening (scan_of scan.kind scan.order scan.pixels third.answer.tiles) third.storage ≡ accepted
