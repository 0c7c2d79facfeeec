-- Check 22.
--     word_in, word_quadrant     the words of a valid list are its tiles, and quadrant tiles
--     opened                     one word of the list, or the words behind it, decide
--     covers_none                no word is left
--     covers_blank               where no tile covers a pixel that is not scanned, these are nobody's
use mathlib.Core.Path.{◌≡◌, ◌∙◌, refl}
use mathlib.Core.Bool.{Bool, false, ◌||◌}
use mathlib.Core.List.{List, [], ◌∷◌}
use Prim.Native.Nat.{ℕ, ◌+◌, ◌≤◌, ◌<◌}
use native.Mathlib.Numerals.{add-one}
use native.Mathlib.Omega.{arith}
use native.Mathlib.Nat.{le_refl}
use lib.ListN.{length, drop, get_or}
use lib.Seq.{drop-cons, drop-length}
use Rattle.basics.proofs.Tests.{told_false, neither}
use Rattle.tile.specs.declared.Tile.{Tile}
use Rattle.tile.specs.Tile.{tile_of}
use Rattle.tile.specs.Slots.{tiles}
use Rattle.tile.proofs.SlotTiles.{tiles_in_in}
use Rattle.quadtree.specs.Raster.{account_at, Quadrant, ◌∈◌}
use Rattle.quadtree.specs.Valid.{Valid}
use Rattle.quadtree.proofs.Shown.{account_at_rest}
use Rattle.quadtree.proofs.ValidLaws.{valid_quadrant}
use Rattle.bed.specs.declared.Scan.{Scan}
use Rattle.bed.specs.Places.{place_of, unscanned_in}
use Rattle.bed.proofs.ScannedBlocks.{test_unscanned}
use Rattle.list_check.proofs.TreeLaws.{tiles_whole}
use Rattle.scan_check.specs.Opening.{covers_unscanned}

module _ (ws : List ℕ) (i : ℕ) (h : i < length ws) where
  pub word_in : tile_of (get_or ws i 0) ∈ tiles ws
  word_in = rw (tiles_whole ws) at (tiles_in_in (length ws) ws i h (le_refl (length ws)))

  pub word_quadrant : {n : ℕ} → Valid n (tiles ws) → Quadrant n (tile_of (get_or ws i 0))
  word_quadrant v = valid_quadrant v word_in

  split : drop i ws ≡ get_or ws i 0 ∷ drop (i + 1) ws
  split = rw (add-one i) (drop-cons ws i 0 h)

  module _ (c : Scan) where
    abbrev pub one : Bool
    one = unscanned_in c.kind c.order c.pixels (tile_of (get_or ws i 0)).corner (tile_of (get_or ws i 0)).size

    pub opened : covers_unscanned c (tiles (drop i ws)) ≡ (one || covers_unscanned c (tiles (drop (i + 1) ws)))
    unfolding covers_unscanned
    opened = rw split

pub covers_none : (c : Scan) (ws : List ℕ) (i : ℕ) → i ≡ length ws → covers_unscanned c (tiles (drop i ws)) ≡ false
unfolding covers_unscanned
covers_none c ws i e = rw (e, drop-length ws)

pub covers_blank : (c : Scan) (ts : List Tile) → covers_unscanned c ts ≡ false → (z : ℕ) → c.pixels ≤ place_of c.kind c.order z → account_at ts z ≡ 0
unfolding covers_unscanned account_at
covers_blank c [] e z g = refl
covers_blank c (t ∷ ts) e z g =
    let q = neither (unscanned_in c.kind c.order c.pixels t.corner t.size) (covers_unscanned c ts) e in
    account_at_rest t ts z (λ h. told_false (test_unscanned c.kind c.order c.pixels t.corner t.size) q.0 (z, h.0, h.1, λ l. omega arith)) ∙ covers_blank c ts q.1 z g
