-- The checks that what is asked is scanned, by how they end.
--     pixel_unscanned, -scanned     52 of a pixel by its place; pixel-passed, what passes
--     block_unscanned, -scanned     52 of a block by the test; block-passed, what passes, and block-all, that it does
--     finished_short, -whole        52 of a scan to be written; finished-passed, what passes; finished-all, that each pixel is scanned
--     whole_pixel, whole_block      52 is met of none of them once all pixels are scanned
--     tiles_clear                   no tile covers an unscanned pixel, where each is wholly scanned
--     whole_clear, blank_clear      no tile of a valid list covers an unscanned pixel, once all are scanned, or where the unscanned ones are nobody's
use mathlib.Core.Path.{◌≡◌, refl, sym}
use mathlib.Core.Bool.{Bool, true, false}
use mathlib.Core.List.Memᴰ
use mathlib.Core.List.{List, [], ◌∷◌}
use mathlib.Core.Logic.{◌↔◌}
use Prim.Native.Nat.{ℕ, suc, ◌-◌, ◌^◌, ◌≤◌, ◌<◌}
use native.Mathlib.Decide.{dec_lt}
use native.Mathlib.Omega.{arith}
use lib.Dec.{eqb}
use Rattle.basics.proofs.Tests.{Test, holds, fails, test_leb, test_eqb, test_true, told_true}
use Rattle.refusal.specs.Refusal.{accepted, unscanned}
use Rattle.refusal.specs.Checks.{must}
use Rattle.refusal.proofs.CheckLaws.{must_on, must_off, must_inv}
use Rattle.tile.specs.declared.Tile.{Tile}
use Rattle.quadtree.specs.Raster.{Aligned, account_at, ◌∈◌}
use Rattle.quadtree.specs.Valid.{Valid}
use Rattle.quadtree.proofs.Alignment.{area_pos, aligned_room}
use Rattle.quadtree.proofs.Chains.{quadrant_stop}
use Rattle.quadtree.proofs.ValidLaws.{valid_quadrant}
use Rattle.quadtree.proofs.Linear.{valid_linear}
use Rattle.bed.specs.declared.Scan.{Scan}
use Rattle.bed.specs.Places.{place_of, pixel_at, scanned, unscanned_in}
use Rattle.bed.proofs.PlaceLaws.{pixel_at_lt, place_of_lt, place_of_pixel_at}
use Rattle.bed.proofs.ScannedBlocks.{AllScanned, test_unscanned, test_scanned}
use Rattle.scan_check.specs.Opening.{covers_unscanned}
use Rattle.scan_check.specs.Scanned.{scanned_check, block_scanned_check, finished_check}

module _ (c : Scan) (z : ℕ) where
  abbrev place : ℕ
  place = place_of c.kind c.order z

  pub pixel_unscanned : c.pixels ≤ place → unscanned ≡ scanned_check c z
  unfolding scanned_check scanned
  pixel_unscanned h = sym (must_off unscanned accepted (test_leb (suc place) c.pixels) (λ l. omega arith))

  pub pixel_scanned : place < c.pixels → accepted ≡ scanned_check c z
  unfolding scanned_check scanned
  pixel_scanned h = sym (must_on unscanned accepted (test_leb (suc place) c.pixels) h)

  pub pixel_passed : scanned_check c z ≡ accepted → place < c.pixels
  unfolding scanned_check scanned
  pixel_passed e = (must_inv (test_leb (suc place) c.pixels) (omega arith) e).0

module _ (c : Scan) (x k : ℕ) where
  abbrev all : Type 0
  all = AllScanned c.kind c.order c.pixels x k

  pub block_unscanned : true ≡ unscanned_in c.kind c.order c.pixels x k → unscanned ≡ block_scanned_check c x k
  unfolding block_scanned_check must
  block_unscanned e = rw (← e)

  pub block_scanned : false ≡ unscanned_in c.kind c.order c.pixels x k → accepted ≡ block_scanned_check c x k
  unfolding block_scanned_check must
  block_scanned e = rw (← e)

  pub block_passed : block_scanned_check c x k ≡ accepted → all
  unfolding block_scanned_check
  block_passed e = (must_inv (test_scanned c.kind c.order c.pixels x k) (omega arith) e).0

  pub block_all : all → block_scanned_check c x k ≡ accepted
  unfolding block_scanned_check
  block_all a = must_on unscanned accepted (test_scanned c.kind c.order c.pixels x k) a

module _ (c : Scan) where
  -- how `whole` tells that every pixel is scanned
  abbrev all_seen : Bool
  all_seen = eqb c.pixels (4 ^ c.order)

  pub seen_all : true ≡ all_seen → c.pixels ≡ 4 ^ c.order
  seen_all e = told_true (test_eqb c.pixels (4 ^ c.order)) (sym e)

  pub finished_short : false ≡ all_seen → unscanned ≡ finished_check c
  unfolding finished_check must
  finished_short e = rw (← e)

  pub finished_whole : true ≡ all_seen → accepted ≡ finished_check c
  unfolding finished_check must
  finished_whole e = rw (← e)

  pub whole_pixel : true ≡ all_seen → (z : ℕ) → z < 4 ^ c.order → accepted ≡ scanned_check c z
  whole_pixel e z h = pixel_scanned c z (omega (arith, seen_all e, place_of_lt c.kind c.order z h))

  pub whole_block : true ≡ all_seen → (x k : ℕ) → k ≤ c.order → x < 4 ^ c.order → Aligned k x → accepted ≡ block_scanned_check c x k
  whole_block e x k h l m =
      sym (block_all c x k (λ z i j. omega (arith, seen_all e, place_of_lt c.kind c.order z (omega (arith, aligned_room h m l)))))

  pub finished_passed : finished_check c ≡ accepted → c.pixels ≡ 4 ^ c.order
  unfolding finished_check
  finished_passed e = (must_inv (test_eqb c.pixels (4 ^ c.order)) (omega arith) e).0

  pub finished_refused : (finished_check c ≡ accepted → ⊥) → finished_check c ≡ unscanned
  unfolding finished_check
  finished_refused h = must_off unscanned accepted (test_eqb c.pixels (4 ^ c.order)) (λ e. h (must_on unscanned accepted (test_eqb c.pixels (4 ^ c.order)) e))

  -- the last place of the scan is that of a pixel
  pub finished_all : c.pixels ≤ 4 ^ c.order → (finished_check c ≡ accepted) ↔ AllScanned c.kind c.order c.pixels 0 c.order
  finished_all few = (
    λ e z l h. omega (arith, finished_passed e, place_of_lt c.kind c.order z (omega arith)),
    λ a.
        let pos = area_pos c.order in
        let last = pixel_at c.kind c.order (4 ^ c.order - 1) in
        let in-bed = pixel_at_lt c.kind c.order (4 ^ c.order - 1) (omega arith) in
        sym (finished_whole (sym (test_true (test_eqb c.pixels (4 ^ c.order)) (omega (arith, a last (omega arith) (omega (arith, in-bed)), place_of_pixel_at c.kind c.order (4 ^ c.order - 1) (omega arith)))))),
  )

  -- no tile covers an unscanned pixel, where each is wholly scanned
  pub tiles_clear : (ts : List Tile) → ((t : Tile) → t ∈ ts → AllScanned c.kind c.order c.pixels t.corner t.size) → covers_unscanned c ts ≡ false
  unfolding covers_unscanned
  tiles_clear [] q = refl
  tiles_clear (t ∷ ts) q = rw (passed (test_unscanned c.kind c.order c.pixels t.corner t.size) (λ w. w.3 (q t (Memᴰ.head refl) w.0 w.1 w.2))) (tiles_clear ts (λ u i. q u (Memᴰ.tail i)))
    where
      passed : {P : Type 0} {b : Bool} → Test P b → (P → ⊥) → b ≡ false
      passed (holds p) h = absurd (h p)
      passed (fails p) h = refl

  module _ (ts : List Tile) (v : Valid c.order ts) where
    pub whole_clear : 4 ^ c.order ≤ c.pixels → covers_unscanned c ts ≡ false
    whole_clear e = tiles_clear ts (λ t i z l h. omega (arith, place_of_lt c.kind c.order z (omega (arith, quadrant_stop (valid_quadrant v i)))))

    pub blank_clear : ((z : ℕ) → z < 4 ^ c.order → c.pixels ≤ place_of c.kind c.order z → account_at ts z ≡ 0) → covers_unscanned c ts ≡ false
    blank_clear blank = tiles_clear ts (λ t i z l h.
        let p = ((valid_linear v).members t).0 i in
        elim (dec_lt (place_of c.kind c.order z) c.pixels) [
          | yes g ↦ g
          | no g ↦ absurd (omega (arith, p.uniform z l h, p.quadrant.owned, blank z (omega (arith, quadrant_stop p.quadrant)) (omega arith)))
        ])
