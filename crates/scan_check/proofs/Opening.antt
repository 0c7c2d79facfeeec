-- The opening checks in their order.
--     open_list, open_pixels, open_tiles, open_passed   which check refuses, or that none does
--     open_whole                                        none does past the list's, once all pixels are scanned
--     opening_opened, opened_opening                    what a record and its slots have that pass, and that they do
use mathlib.Core.Path.{◌≡◌, ◌∙◌, refl, sym}
use mathlib.Core.Bool.{Bool, true, false, not}
use Prim.Native.Nat.{ℕ, ◌^◌, ◌≤◌, ◌<◌}
use mathlib.Core.List.{List}
use native.Mathlib.Omega.{arith}
use Rattle.basics.proofs.Tests.{Test, holds, fails, test_leb}
use Rattle.refusal.specs.Refusal.{accepted, scanned_too_large, tile_unscanned}
use Rattle.refusal.specs.Checks.{must}
use Rattle.refusal.proofs.CheckLaws.{must_on, must_off, must_inv, else_on, else_off, else_inv}
use Rattle.tile.specs.Slots.{tiles_in}
use Rattle.quadtree.specs.Raster.{account_at}
use Rattle.list_check.specs.ListCheck.{list_check}
use Rattle.list_check.proofs.Accepts.{list_check_valid}
use Rattle.bed.specs.declared.Scan.{Scan}
use Rattle.bed.specs.Places.{place_of}
use Rattle.scan_check.specs.Opened.{Opened}
use Rattle.scan_check.specs.Opening.{covers_unscanned, opening}
use Rattle.scan_check.proofs.Unscanned.{covers_blank}
use Rattle.scan_check.proofs.ScannedLaws.{whole_clear, blank_clear}

test_none : (b : Bool) → Test (b ≡ false) (not b)
test_none true = fails (λ e. let z : ◌≡◌ {A = ℕ} 0 1 = cc in omega arith)
test_none false = holds refl

module _ (c : Scan) (slots : List ℕ) where
  abbrev list : ℕ
  list = list_check c.order c.tiles slots

  abbrev covered : Bool
  covered = covers_unscanned c (tiles_in c.tiles slots)

  pub open_list : (r : ℕ) → r ≡ list → (r ≡ accepted → ⊥) → r ≡ opening c slots
  unfolding opening
  open_list r e h = e ∙ sym (else_off list _ (λ q. h (e ∙ q)))

  module _ (passed : list ≡ accepted) where
    pub open_pixels : 4 ^ c.order < c.pixels → scanned_too_large ≡ opening c slots
    unfolding opening
    open_pixels h = sym (else_on list _ passed ∙ must_off _ _ (test_leb c.pixels (4 ^ c.order)) (λ q. omega arith))

    module _ (few : c.pixels ≤ 4 ^ c.order) where
      to_tiles : opening c slots ≡ must (not covered) tile_unscanned accepted
      unfolding opening
      to_tiles = else_on list _ passed ∙ must_on _ _ (test_leb c.pixels (4 ^ c.order)) few

      pub open_tiles : true ≡ covered → tile_unscanned ≡ opening c slots
      unfolding must
      open_tiles e = sym (to_tiles ∙ rw (← e))

      pub open_passed : false ≡ covered → accepted ≡ opening c slots
      unfolding must
      open_passed e = sym (to_tiles ∙ rw (← e))

    pub open_whole : 4 ^ c.order ≡ c.pixels → accepted ≡ opening c slots
    open_whole e =
        let v = (list_check_valid c.order c.tiles slots).0 passed in
        open_passed (omega arith) (sym (whole_clear c (tiles_in c.tiles slots) v.2 (omega arith)))

  pub opening_opened : opening c slots ≡ accepted → Opened c slots
  unfolding opening
  opening_opened e =
      let a = else_inv list _ e in
      let b = must_inv (test_leb c.pixels (4 ^ c.order)) (omega arith) a.1 in
      let d = must_inv (test_none covered) (omega arith) b.1 in
      let v = (list_check_valid c.order c.tiles slots).0 a.0 in
      record { order = v.0; count = v.1; valid = v.2; scanned = b.0; blank = λ z h g. covers_blank c (tiles_in c.tiles slots) d.0 z g }

  pub opened_opening : list ≡ accepted → c.pixels ≤ 4 ^ c.order → ((z : ℕ) → z < 4 ^ c.order → c.pixels ≤ place_of c.kind c.order z → account_at (tiles_in c.tiles slots) z ≡ 0) → opening c slots ≡ accepted
  opened_opening e few blank =
      let v = ((list_check_valid c.order c.tiles slots).0 e).2 in
      sym (open_passed e few (sym (blank_clear c (tiles_in c.tiles slots) v blank)))
