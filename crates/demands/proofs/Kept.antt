-- What a call leaves in record and slots, of a bed: the invariant of every list of calls.
--     kept_by m b             the record and the m slots of the bed b: its linear quadtree, and zeros
--     Kept m s b             the state s is that, and the bed is good
--     kept_list              the list in use is the linear quadtree of the bed
--     kept_check             it passes list checking
--     kept_shown             it shows the bed's accounts
--     kept_left              the parts of `Left`
use mathlib.Core.Path.{◌≡◌, refl, ap, sym, ◌∙◌}
use mathlib.Core.List.{List, map}
use Prim.Native.Nat.{ℕ, ◌-◌, ◌^◌, ◌≤◌, ◌<◌}
use native.Mathlib.Omega.{arith}
use lib.ListN.{length, drop, replicate, length-map}
use lib.Seq.{drop_at}
use Rattle.basics.proofs.Tests.{test_eqb}
use Rattle.refusal.specs.Refusal.{accepted, raster_length}
use Rattle.refusal.specs.Checks.{After}
use Rattle.refusal.proofs.CheckLaws.{must_on, else_on, unless_on}
use Rattle.tile.specs.declared.Tile.{Tile}
use Rattle.tile.specs.Tile.{word_of, highest_account}
use Rattle.tile.specs.Slots.{filled}
use Rattle.tile.proofs.TileLaws.{Packable}
use Rattle.tile.proofs.SlotsLaws.{filled_length, tiles_in_filled}
use Rattle.quadtree.specs.Raster.{account_at, ◌∈◌}
use Rattle.quadtree.specs.Quadtree.{quadtree}
use Rattle.quadtree.proofs.ValidLaws.{quadtree_valid, quadtree_shown}
use Rattle.quadtree.proofs.Linear.{quadtree_largest, quadtree_low, quadtree_linear}
use Rattle.quadtree.proofs.Least.{shows_least}
use Rattle.list_check.specs.ListCheck.{list_check}
use Rattle.list_check.proofs.Accepts.{list_check_filled}
use Rattle.bed.specs.Places.{scan_of}
use Rattle.bed.specs.Bed.{Bed}
use Rattle.bed.proofs.PlaceLaws.{rows_cong}
use Rattle.bed.proofs.BedLaws.{Good}
use Rattle.decode.specs.Decode.{decode_of, decode_check}
use Rattle.demands.specs.Calls.{State}
use Rattle.demands.specs.Demands.{list_in, Decodes, Left}

abbrev pub kept_by : ℕ → Bed → State
kept_by m b = record { scan = scan_of b.kind b.order b.scanned (length (quadtree b.order b.account)); slots = filled m (quadtree b.order b.account) }

pub record Kept (m : ℕ) (s : State) (b : Bed) : Type 0 where
  pub is : s ≡ kept_by m b
  pub good : Good m b.order b.scanned b.account

module _ {m : ℕ} (b : Bed) (w : Good m b.order b.scanned b.account) where
  account_low : (t : Tile) → t ∈ quadtree b.order b.account → t.account ≤ highest_account
  account_low = quadtree_low b.order b.account highest_account w.accounts

  packable : (t : Tile) → t ∈ quadtree b.order b.account → Packable t
  packable t i = record { size = omega (arith, (quadtree_largest b.order b.account i).quadrant.fits, w.order); account = account_low t i }

  pub kept_list : list_in (kept_by m b) ≡ quadtree b.order b.account
  kept_list = tiles_in_filled m (quadtree b.order b.account) packable

  pub kept_length : length (kept_by m b).slots ≡ m
  kept_length = filled_length m (quadtree b.order b.account) w.room

  pub kept_check : list_check b.order (kept_by m b).scan.tiles (kept_by m b).slots ≡ accepted
  kept_check = list_check_filled b.order m (quadtree b.order b.account) w.order w.room account_low (quadtree_valid b.order b.account)

  pub kept_shown : (z : ℕ) → z < 4 ^ b.order → account_at (list_in (kept_by m b)) z ≡ b.account z
  kept_shown z h = ap (λ (ts : List Tile). account_at ts z) kept_list ∙ quadtree_shown b.order b.account z h

  kept_decodes : Decodes (kept_by m b) b.account
  unfolding decode_of decode_check
  kept_decodes raster e =
      unless_on _ _ _ (else_on _ _ kept_check ∙ must_on raster_length accepted (test_eqb (length raster) (4 ^ b.order)) e)
      ∙ ap {B = After ℕ} (λ l. record { answer = accepted; storage = l }) (rows_cong b.order (account_at (list_in (kept_by m b))) b.account kept_shown)

  kept_rest : drop (kept_by m b).scan.tiles (kept_by m b).slots ≡ replicate (m - (kept_by m b).scan.tiles) 0
  unfolding filled
  kept_rest = drop_at (map word_of (quadtree b.order b.account)) (replicate (m - length (quadtree b.order b.account)) 0) (length (quadtree b.order b.account)) (length-map (quadtree b.order b.account) word_of)

  kept_left_by : Left m (kept_by m b) b
  kept_left_by = record {
    kind = refl;
    order = refl;
    scanned = refl;
    tiles = ap length (sym kept_list);
    lent = kept_length;
    linear = rw kept_list (quadtree_linear b.order b.account);
    rest = kept_rest;
    decodes = kept_decodes;
    least = λ ts s. rw kept_list (shows_least s);
  }

pub kept_left : {m : ℕ} {s : State} {b : Bed} → Kept m s b → Left m s b
kept_left {b = b} k = rw k.is (kept_left_by b k.good)
