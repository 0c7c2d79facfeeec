-- What an accepted combine leaves.
--     third_map          by any rule that makes accounts: it is the third map of two maps of one order
--     third_map_choice   by the rule of a choice: it is the one that document 02 asks for
--     third_scanned      with the first map's kind and pixels scanned it passes the opening checks
use mathlib.Core.Path.{◌≡◌, refl, ap, sym, ◌∙◌}
use mathlib.Core.List.{List, map}
use Prim.Native.Nat.{ℕ, ◌-◌, ◌^◌, ◌≤◌, ◌<◌}
use native.Mathlib.Omega.{arith}
use lib.ListN.{length, take, replicate, length-map}
use lib.Seq.{drop_at}
use Rattle.basics.proofs.Tests.{test_leb}
use Rattle.refusal.specs.Refusal.{accepted}
use Rattle.refusal.specs.Checks.{After}
use Rattle.refusal.proofs.CheckLaws.{must_inv, else_inv, unless_on, unless_number}
use Rattle.tile.specs.declared.Tile.{Tile}
use Rattle.tile.specs.Tile.{word_of, highest_order, highest_account}
use Rattle.tile.specs.Slots.{tiles_in, filled}
use Rattle.tile.proofs.TileLaws.{Packable}
use Rattle.tile.proofs.SlotsLaws.{filled_length, tiles_in_filled}
use Rattle.quadtree.specs.Raster.{account_at, ◌∈◌}
use Rattle.quadtree.proofs.Linear.{quadtree_largest, quadtree_low}
use Rattle.quadtree.proofs.Laws.{linear, valid, round_trip, minimum}
use Rattle.quadtree.proofs.Shown.{account_at_low}
use Rattle.list_check.proofs.Accepts.{list_check_filled}
use Rattle.bed.specs.Places.{scan_of}
use Rattle.scan_check.proofs.Opening.{opening_opened, opened_opening}
use Rattle.combine_rule.specs.declared.Choice.{Choice}
use Rattle.combine_rule.specs.Rule.{rule_of, MakesAccounts, third_raster}
use Rattle.combine_rule.specs.Accounts.{rule_accounts}
use Rattle.combine_rule.proofs.RuleCases.{rule_nobody}
use Rattle.combine.specs.declared.CombineAnswer.{CombineAnswer}
use Rattle.combine.specs.Combine.{third_tiles, maps_check, combine_refusal, combine_by, combine_of}
use Rattle.combine.specs.ThirdMap.{ThirdMap, ThirdScanned}
use Rattle.combine.proofs.CombineLaws.{maps_passed}

module _ {rule : ℕ → ℕ → ℕ} (makes : MakesAccounts rule) (n t : ℕ) (s : List ℕ) (u : ℕ) (w : List ℕ) where
  abbrev ts : List Tile
  ts = third_tiles rule n t s u w

  accounts : (z : ℕ) → z < 4 ^ n → third_raster rule t s u w z ≤ highest_account
  unfolding tiles_in
  accounts z h = makes _ _ (account_at_low (take t s) z) (account_at_low (take u w) z)

  account_low : (v : Tile) → v ∈ ts → v.account ≤ highest_account
  account_low = quadtree_low n (third_raster rule t s u w) highest_account accounts

  packable : n ≤ highest_order → (v : Tile) → v ∈ ts → Packable v
  packable o v i = record { size = omega (arith, (quadtree_largest n (third_raster rule t s u w) i).quadrant.fits); account = account_low v i }

  left : n ≤ highest_order → (out : List ℕ) → length ts ≤ length out → ThirdMap rule n t s u w out (record { answer = record { number = accepted; tiles = length ts }; storage = filled (length out) ts })
  unfolding filled
  left o out h =
      let e : tiles_in (length ts) (filled (length out) ts) ≡ ts = tiles_in_filled (length out) ts (packable o) in
      record {
        lent = filled_length (length out) ts h;
        rest = drop_at (map word_of ts) (replicate (length out - length ts) 0) (length ts) (length-map ts word_of);
        checks = list_check_filled n (length out) ts o h account_low (valid n (third_raster rule t s u w));
        pixels = λ z l. ap (λ (us : List Tile). account_at us z) e ∙ round_trip n (third_raster rule t s u w) z l;
        linear = rw e (linear n (third_raster rule t s u w));
        least = λ us q. minimum q;
      }

pub third_map : (rule : ℕ → ℕ → ℕ) → MakesAccounts rule → (n t : ℕ) (s : List ℕ) (m u : ℕ) (w out : List ℕ) → (combine_by rule n t s m u w out).answer.number ≡ accepted →
    (n ≡ m) × ThirdMap rule n t s u w out (combine_by rule n t s m u w out)
unfolding combine_by combine_refusal
third_map rule makes n t s m u w out e =
    let r = sym (unless_number (λ (a : After CombineAnswer). a.answer.number) (combine_refusal rule n t s m u w out) (λ x. refl) refl) ∙ e in
    let p = else_inv (maps_check n t s m u w) _ r in
    let q = maps_passed n t s m u w p.0 in
    let h = (must_inv (test_leb (length (third_tiles rule n t s u w)) (length out)) (omega arith) p.1).0 in
    (q.1, rw (unless_on (combine_refusal rule n t s m u w out) _ _ r) (left makes n t s u w q.0.few out h))

pub third_map_choice : (choice : Choice) (n t : ℕ) (s : List ℕ) (m u : ℕ) (w out : List ℕ) → (combine_of choice n t s m u w out).answer.number ≡ accepted →
    (n ≡ m) × ThirdMap (rule_of choice) n t s u w out (combine_of choice n t s m u w out)
third_map_choice choice = third_map (rule_of choice) (rule_accounts choice)

-- where the first map is nobody's, so is the third
pub third_scanned : ThirdScanned
third_scanned choice scan s m u w out e c =
    let o = opening_opened scan s e in
    let t = (third_map_choice choice scan.order scan.tiles s m u w out c).1 in
    let x = combine_of choice scan.order scan.tiles s m u w out in
    opened_opening (scan_of scan.kind scan.order scan.pixels x.answer.tiles) x.storage t.checks o.scanned
    (λ z l h. t.pixels z l ∙ ap (λ (a : ℕ). rule_of choice a (account_at (tiles_in u w) z)) (o.blank z l h) ∙ rule_nobody choice (account_at (tiles_in u w) z))
