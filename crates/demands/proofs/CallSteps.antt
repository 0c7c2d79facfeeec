-- One call: record and slots answer what the plain bed answers, and keep the bed that it leaves.
--     Agrees m p q       the two steps answer alike, and the state kept is that of the bed left
--     kept_opening       the opening checks of a state that keeps a bed: 22 alone can be met
--     fresh_begins       an accepted fresh scan, whatever was there before
--     read_begins        an accepted reading, whatever was there before
--     step_agrees        any call on a state that keeps a bed
use mathlib.Core.Path.{◌≡◌, refl, ap, sym, ◌∙◌}
use mathlib.Core.Bool.{Bool, true, false, not}
use mathlib.Core.List.{List, [], ◌++◌, map}
use Prim.Native.Nat.{ℕ, zero, suc, ◌+◌, ◌-◌, ◌^◌, ◌≤◌}
use native.Mathlib.Decide.{dec_le}
use native.Mathlib.Nat.{le_refl}
use native.Mathlib.Omega.{arith}
use lib.ListN.{length, replicate, length-map}
use Rattle.basics.specs.Choice.{if}
use Rattle.basics.proofs.Tests.{test_leb}
use Rattle.refusal.specs.Refusal.{accepted, order_too_large, scanned_too_large, tile_unscanned}
use Rattle.refusal.specs.Checks.{must, or_else, unless}
use Rattle.refusal.proofs.CheckLaws.{must_on, must_off, else_on, else_must}
use Rattle.tile.specs.declared.Tile.{Tile}
use Rattle.tile.specs.Tile.{tile_of, highest_order}
use Rattle.tile.specs.Slots.{filled}
use Rattle.tile.proofs.SlotsLaws.{words_tiles}
use Rattle.quadtree.specs.Raster.{account_at}
use Rattle.quadtree.specs.Quadtree.{quadtree}
use Rattle.quadtree.specs.Valid.{Valid}
use Rattle.quadtree.proofs.Shown.{account_at_low}
use Rattle.quadtree.proofs.Blocks.{blank_quadtree}
use Rattle.quadtree.proofs.ValidLaws.{quadtree_cong, valid_quadtree}
use Rattle.bed.specs.declared.Kind.{Kind}
use Rattle.bed.specs.declared.Kind.TheVariants.{Rows}
use Rattle.bed.specs.Places.{scan_of}
use Rattle.bed.specs.Bed as bed
use Rattle.bed.specs.Bed.{Bed, bed_of, fresh_bed, claimed, claim_check, claim_bed_check, feed_bed, feed_pixels, has_unscanned}
use Rattle.bed.specs.Shown.{shown_bed}
use Rattle.bed.proofs.BedLaws.{Good, paint_agree, paint_accounts, claim_check_agree, claim_passed, FedAlike, feed_pixels_alike}
use Rattle.scan.specs.FreshScan.{fresh_of}
use Rattle.scan_check.specs.Opening.{opening}
use Rattle.scan.specs.Feed.{fed_to, feed_of}
use Rattle.claim.specs.Claim.{claim_refusal, claim_of}
use Rattle.mapfile_read.specs.Reader.{file_check, file_order, file_count, file_words, read_of, read_bed}
use Rattle.mapfile_read.proofs.ReaderLaws.{Passed, read_of_valid}
use Rattle.demands.specs.Calls.{Call, fresh, feed, claim, read, answer, State, Step, PlainStep, step, plain_step, plain_fed, after_fresh, after_feed, after_claim, after_read, Begins}
use Rattle.demands.specs.Demands.{list_in}
use Rattle.demands.proofs.Kept.{kept_by, Kept, kept_list, kept_length, kept_check, kept_shown}
use Rattle.demands.proofs.UnscannedAlike.{unscanned_alike}

pub record Agrees (m : ℕ) (p : Step) (q : PlainStep) : Type 0 where
  pub answer : p.answer ≡ q.answer
  pub kept : Kept m p.state q.bed

-- the empty bed
filled_none : (m : ℕ) → filled m [] ≡ replicate m 0
unfolding filled
filled_none m = let e : m - 0 ≡ m = omega arith in rw e

pub fresh_kept : (m l : ℕ) → l ≡ m → (k : Kind) (n : ℕ) → n ≤ highest_order → Kept m (record { scan = scan_of k n 0 0; slots = replicate l 0 }) (fresh_bed k n)
fresh_kept m l slots k n h = record {
  is = rw (blank_quadtree n, filled_none m, slots);
  good = record { order = h; scanned = omega arith; accounts = λ z l. omega arith; room = rw (blank_quadtree n) (omega arith) };
}

module _ (m : ℕ) (s : State) (slots : length s.slots ≡ m) (b : Bed) where
  pub fresh_begins : (k : Kind) (n : ℕ) → n ≤ highest_order → Agrees m (step s (fresh k n)) (plain_step m b (fresh k n))
  unfolding step plain_step after_fresh fresh_of unless
  fresh_begins k n h = rw (must_on order_too_large accepted (test_leb n highest_order) h) (record { answer = refl; kept = fresh_kept m (length s.slots) slots k n h })

fresh_refused : (m : ℕ) (s : State) (b : Bed) (k : Kind) (n : ℕ) → Kept m s b → (n ≤ highest_order → ⊥) → Agrees m (step s (fresh k n)) (plain_step m b (fresh k n))
unfolding step plain_step after_fresh fresh_of unless
fresh_refused m s b k n w h = rw (must_off order_too_large accepted (test_leb n highest_order) h) (record { answer = refl; kept = w })

-- the opening checks of a state that keeps a bed
pub kept_opening : {m : ℕ} (b : Bed) → Good m b.order b.scanned b.account → opening (kept_by m b).scan (kept_by m b).slots ≡ must (not (has_unscanned b)) tile_unscanned accepted
unfolding opening
kept_opening {m} b w =
    else_on _ _ (kept_check b w)
    ∙ must_on scanned_too_large _ (test_leb b.scanned (4 ^ b.order)) w.scanned
    ∙ rw (kept_list b w, unscanned_alike b.kind b.order b.scanned (kept_by m b).scan.tiles b.account)

-- claims
module _ (m : ℕ) (b : Bed) (w : Good m b.order b.scanned b.account) (c k a : ℕ) where
  shown : Bed
  shown = shown_bed (kept_by m b).scan (kept_by m b).slots

  claim_asked : claim_check (length (kept_by m b).slots) shown c k a ≡ claim_check m b c k a
  unfolding shown
  claim_asked = ap (λ (l : ℕ). claim_check l shown c k a) (kept_length b w) ∙ claim_check_agree m b.kind b.order b.scanned (account_at (list_in (kept_by m b))) b.account c k a (kept_shown b w)

  claim_number : claim_refusal (kept_by m b).scan (kept_by m b).slots c k a ≡ claim_bed_check m b c k a
  unfolding claim_refusal claim_bed_check shown or_else
  claim_number = ap (λ (x : ℕ). or_else x (claim_check (length (kept_by m b).slots) shown c k a)) (kept_opening b w) ∙ else_must (not (has_unscanned b)) tile_unscanned accepted _ (omega arith) claim_asked

  claim_list : quadtree b.order (claimed (account_at (list_in (kept_by m b))) c k a) ≡ quadtree b.order (claimed b.account c k a)
  claim_list = quadtree_cong b.order _ _ (paint_agree b.order c (c + 4 ^ k) a (kept_shown b w))

  claim_good : claim_bed_check m b c k a ≡ accepted → Good m b.order b.scanned (claimed b.account c k a)
  claim_good e =
      let p = claim_passed m b c k a e in
      record { order = w.order; scanned = w.scanned; accounts = paint_accounts b.order c (c + 4 ^ k) a p.low w.accounts; room = p.room }

  claim_agrees_by : (r : ℕ) → claim_bed_check m b c k a ≡ r → Agrees m (step (kept_by m b) (claim c k a)) (plain_step m b (claim c k a))
  unfolding step plain_step after_claim claim_of unless
  claim_agrees_by zero e = rw (claim_number, e, claim_list, kept_length b w) (record { answer = refl; kept = record { is = refl; good = claim_good e } })
  claim_agrees_by (suc r) e = rw (claim_number, e) (record { answer = refl; kept = record { is = refl; good = w } })

  pub claim_agrees : Agrees m (step (kept_by m b) (claim c k a)) (plain_step m b (claim c k a))
  claim_agrees = claim_agrees_by (claim_bed_check m b c k a) refl

-- feeds
module _ (m : ℕ) (b : Bed) (w : Good m b.order b.scanned b.account) (bytes : List ℕ) where
  -- the feed of the bed that the list shows, and that of the bed
  fed_alike : FedAlike m b.kind b.order (feed_pixels m 0 (bed_of b.kind b.order b.scanned (account_at (list_in (kept_by m b)))) bytes) (feed_pixels m 0 b bytes)
  fed_alike = feed_pixels_alike m b.kind b.order 0 b.scanned (account_at (list_in (kept_by m b))) b.account bytes (kept_shown b w) w

  fed_kept : {p q : bed.BedFed} → FedAlike m b.kind b.order p q → Agrees m (after_feed (fed_to m p)) (plain_fed q)
  unfolding after_feed fed_to
  fed_kept {p} {q} f = record {
    answer = λ i. answer (f.number i) (f.taken i);
    kept = record {
      is = ap (kept_by m) f.first_bed ∙ between ∙ ap (kept_by m) (sym f.second_bed);
      good = rw f.second_bed f.good;
    };
  }
    where
      between : kept_by m (bed_of b.kind b.order f.scanned f.first) ≡ kept_by m (bed_of b.kind b.order f.scanned f.second)
      between = rw (quadtree_cong b.order f.first f.second f.agree)

  feed_agrees_by : (x : Bool) → has_unscanned b ≡ x → Agrees m (step (kept_by m b) (feed bytes)) (plain_step m b (feed bytes))
  unfolding step plain_step feed_of feed_bed unless must if after_feed
  feed_agrees_by true e = rw (kept_opening b w, e) (record { answer = refl; kept = record { is = refl; good = w } })
  feed_agrees_by false e = rw (kept_opening b w, e, kept_length b w) (fed_kept fed_alike)

  pub feed_agrees : Agrees m (step (kept_by m b) (feed bytes)) (plain_step m b (feed bytes))
  feed_agrees = feed_agrees_by (has_unscanned b) refl

-- readings
module _ (m : ℕ) (s : State) (slots : length s.slots ≡ m) (b : Bed) (bytes : List ℕ) (e : file_check m bytes ≡ accepted) where
  tiles : List Tile
  tiles = map tile_of (file_words bytes)

  read_list : Valid (file_order bytes) tiles → quadtree (file_order bytes) (account_at tiles) ≡ tiles
  read_list v = sym (valid_quadtree v)

  read_kept : Passed m bytes accepted → Kept m (record { scan = scan_of Rows (file_order bytes) (4 ^ file_order bytes) (file_count bytes); slots = file_words bytes ++ replicate (m - file_count bytes) 0 }) (read_bed bytes)
  unfolding tiles filled
  read_kept r = record {
    is = rw (read_list r.valid, words_tiles (file_words bytes), length-map (file_words bytes) tile_of, r.length_words);
    good = record { order = r.order; scanned = le_refl _; accounts = λ z h. account_at_low (file_words bytes) z; room = rw (read_list r.valid, length-map (file_words bytes) tile_of, r.length_words) r.count };
  }

  pub read_begins : Agrees m (step s (read bytes)) (plain_step m b (read bytes))
  unfolding step plain_step after_read read_of unless
  read_begins = rw (slots, e) (record { answer = refl; kept = read_kept (read_of_valid m bytes e) })

read_refused : (m : ℕ) (s : State) (b : Bed) (bytes : List ℕ) (r : ℕ) → length s.slots ≡ m → Kept m s b → file_check m bytes ≡ suc r → Agrees m (step s (read bytes)) (plain_step m b (read bytes))
unfolding step plain_step after_read read_of unless
read_refused m s b bytes r slots w e = rw (slots, e) (record { answer = refl; kept = w })

-- any call on a state that keeps a bed
module _ (m : ℕ) (b : Bed) (w : Good m b.order b.scanned b.account) where
  kept : Kept m (kept_by m b) b
  kept = record { is = refl; good = w }

  read_agrees : (bytes : List ℕ) (r : ℕ) → file_check m bytes ≡ r → Agrees m (step (kept_by m b) (read bytes)) (plain_step m b (read bytes))
  read_agrees bytes zero e = read_begins m (kept_by m b) (kept_length b w) b bytes e
  read_agrees bytes (suc r) e = read_refused m (kept_by m b) b bytes r (kept_length b w) kept e

  call_agrees : (c : Call) → Agrees m (step (kept_by m b) c) (plain_step m b c)
  call_agrees (fresh k n) = elim (dec_le n highest_order) [ yes h ↦ fresh_begins m (kept_by m b) (kept_length b w) b k n h | no h ↦ fresh_refused m (kept_by m b) b k n kept h ]
  call_agrees (feed bytes) = feed_agrees m b w bytes
  call_agrees (claim c k a) = claim_agrees m b w c k a
  call_agrees (read bytes) = read_agrees bytes (file_check m bytes) refl

pub step_agrees : {m : ℕ} {s : State} {b : Bed} (c : Call) → Kept m s b → Agrees m (step s c) (plain_step m b c)
step_agrees {m} {s} {b} c k = rw k.is (call_agrees m b k.good c)

-- the call that begins a list
pub begin_agrees : (s : State) (b : Bed) (c : Call) → Begins (length s.slots) c → Agrees (length s.slots) (step s c) (plain_step (length s.slots) b c)
begin_agrees s b (fresh k n) h = fresh_begins (length s.slots) s refl b k n h
begin_agrees s b (feed bytes) h = absurd h
begin_agrees s b (claim c k a) h = absurd h
begin_agrees s b (read bytes) h = read_begins (length s.slots) s refl b bytes h
