-- In a list of calls 22 is met by no call: on the plain bed what is not scanned stays nobody's.
--     Clear b          the pixels scanned are in range, and what is not scanned is nobody's
--     Passes p         a step leaves such a bed, and does not answer 22
--     step_clear       any call on such a bed; begin-clear, the call that begins a list
--     list_clear       a list of calls
--     left_opening     what is kept of such a bed passes the opening checks
use mathlib.Core.Path.{◌≡◌, refl, ap, ◌∙◌}
use mathlib.Core.Bool.{false}
use mathlib.Core.List.Memᴰ
use mathlib.Core.List.{List, [], ◌∷◌, Memᴰ}
use mathlib.Core.Logic.{inl, inr}
use Prim.Native.Nat.{ℕ, zero, suc, ◌+◌, ◌^◌, ◌≤◌, ◌<◌}
use native.Mathlib.Nat.{le_refl}
use native.Mathlib.Omega.{arith}
use lib.Dec.{leb}
use Rattle.basics.specs.Choice.{if}
use Rattle.basics.proofs.Tests.{test_leb}
use Rattle.refusal.specs.Refusal.{accepted, order_too_large, tile_unscanned}
use Rattle.refusal.specs.Checks.{must, unless}
use Rattle.refusal.proofs.CheckLaws.{must_on, must_not, else_not}
use Rattle.tile.specs.declared.Tile.{Tile}
use Rattle.tile.specs.Tile.{tile_of, highest_order}
use Rattle.list_check.specs.ListCheck.{sound_check, word_check}
use Rattle.bed.specs.declared.Kind.{Kind}
use Rattle.bed.specs.Places.{place_of, pixel_at}
use Rattle.bed.specs.Bed.{Bed, fresh_bed, BedFed, stopped, has_unscanned, put_pixel, pixel_check, feed_pixels, feed_bed, claim_check, claim_bed_check}
use Rattle.bed.proofs.PlaceLaws.{place_of_pixel_at, place_of_lt}
use Rattle.bed.proofs.BedLaws.{pixel_check_passed, claim_passed}
use Rattle.quadtree.proofs.Shown.{paint_out}
use Rattle.mapfile_bytes.specs.Items.{word_at}
use Rattle.mapfile_entries.specs.RosterCheck.{entries_check, roster_check}
use Rattle.mapfile_read.specs.Reader.{tiles_check, file_check, file_order, read_bed}
use Rattle.scan_check.specs.Opening.{opening}
use Rattle.demands.specs.Calls.{Call, fresh, feed, claim, read, Answer, State, PlainStep, plainly, plain_step, plain_fed, claimed_bed, plain_answers, plain_left, Begins}
use Rattle.demands.proofs.Kept.{Kept}
use Rattle.demands.proofs.UnscannedAlike.{blank_none}
use Rattle.demands.proofs.CallSteps.{kept_opening}

pub record Clear (b : Bed) : Type 0 where
  pub upto : b.scanned ≤ 4 ^ b.order
  pub blank : (z : ℕ) → z < 4 ^ b.order → b.scanned ≤ place_of b.kind b.order z → b.account z ≡ 0

clear_none : (b : Bed) → Clear b → has_unscanned b ≡ false
clear_none b h = blank_none b.kind b.order b.scanned 0 b.account h.blank

-- the number is another one
abbrev Other : ℕ → Type 0
Other r = r ≡ tile_unscanned → ⊥

pub record Passes (p : PlainStep) : Type 0 where
  pub clear : Clear p.bed
  pub other : Other p.answer.number

-- a call that changes the bed only where it is accepted
plainly_clear : (b : Bed) (r : ℕ) (next : Bed) → Other r → (r ≡ accepted → Clear next) → Clear b → Passes (plainly b r next)
unfolding unless
plainly_clear b zero next o n h = record { clear = n refl; other = o }
plainly_clear b (suc r) next o n h = record { clear = h; other = o }

-- fresh scans
order_other : (n : ℕ) → Other (must (leb n highest_order) order_too_large accepted)
order_other n = must_not _ _ _ (λ e. omega arith) (λ e. omega arith)

fresh_clear : (k : Kind) (n : ℕ) → Clear (fresh_bed k n)
fresh_clear k n = record { upto = omega arith; blank = λ z h l. refl }

-- feeds
put_clear : (m : ℕ) (b : Bed) (a : ℕ) → pixel_check m b a ≡ accepted → Clear b → Clear (put_pixel b a)
unfolding put_pixel
put_clear m b a e h =
    let p = pixel_check_passed e in
    record {
      upto = omega (arith, h.upto, p.going);
      blank = λ z l g.
          let s : b.scanned < 4 ^ b.order = omega (arith, h.upto, p.going) in
          paint_out b.account _ _ a z (λ i.
          let q : z ≡ pixel_at b.kind b.order b.scanned = omega (arith, i.0, i.1) in
          omega (arith, ap (place_of b.kind b.order) q, place_of_pixel_at b.kind b.order b.scanned s))
          ∙ h.blank z l (omega arith);
    }

pixel_other : (m : ℕ) (b : Bed) (a : ℕ) → Other (pixel_check m b a)
unfolding pixel_check
pixel_other m b a = must_not _ _ _ (λ e. omega arith) (must_not _ _ _ (λ e. omega arith) (must_not _ _ _ (λ e. omega arith) (λ e. omega arith)))

pixel_clear : (b : Bed) (j r : ℕ) (y : BedFed) → Other r → Clear b → (r ≡ accepted → Passes (plain_fed y)) → Passes (plain_fed (unless r (λ number. stopped number j b) y))
unfolding unless
pixel_clear b j zero y o h n = n refl
pixel_clear b j (suc r) y o h n = record { clear = h; other = o }

feed_pixels_clear : (m j : ℕ) (b : Bed) (bytes : List ℕ) → Clear b → Passes (plain_fed (feed_pixels m j b bytes))
unfolding feed_pixels
feed_pixels_clear m j b [] h = record { clear = h; other = λ e. omega arith }
feed_pixels_clear m j b (a ∷ bytes) h = pixel_clear b j (pixel_check m b a) (feed_pixels m (j + 1) (put_pixel b a) bytes) (pixel_other m b a) h (λ e. feed_pixels_clear m (j + 1) (put_pixel b a) bytes (put_clear m b a e h))

feed_clear : (m : ℕ) (b : Bed) (bytes : List ℕ) → Clear b → Passes (plain_fed (feed_bed m b bytes))
unfolding feed_bed if
feed_clear m b bytes h = rw (clear_none b h) (feed_pixels_clear m 0 b bytes h)

-- claims: no pixel of the block is unscanned
asked_other : (m : ℕ) (b : Bed) (c k a : ℕ) → Other (claim_check m b c k a)
unfolding claim_check
asked_other m b c k a = must_not _ _ _ (λ e. omega arith) (must_not _ _ _ (λ e. omega arith) (must_not _ _ _ (λ e. omega arith) (must_not _ _ _ (λ e. omega arith) (λ e. omega arith))))

claim_other : (m : ℕ) (b : Bed) (c k a : ℕ) → Clear b → Other (claim_bed_check m b c k a)
unfolding claim_bed_check must
claim_other m b c k a h = rw (clear_none b h) (asked_other m b c k a)

claim_clear : (m : ℕ) (b : Bed) (c k a : ℕ) → Clear b → claim_bed_check m b c k a ≡ accepted → Clear (claimed_bed b c k a)
claim_clear m b c k a h e = record {
  upto = h.upto;
  blank = λ z l g. paint_out b.account c (c + 4 ^ k) a z (λ i. omega (arith, (claim_passed m b c k a e).scanned z i.0 i.1)) ∙ h.blank z l g;
}

-- readings
tiles_other : (n t : ℕ) (seen : List Tile) (bs : List ℕ) (p : ℕ) → Other (tiles_check n t seen bs p)
unfolding tiles_check word_check sound_check
tiles_other n zero seen bs p = λ e. omega arith
tiles_other n (suc t) seen bs p =
    must_not _ _ _ (λ e. omega arith) (else_not _ _
    (must_not _ _ _ (λ e. omega arith) (must_not _ _ _ (λ e. omega arith) (must_not _ _ _ (λ e. omega arith) (must_not _ _ _ (λ e. omega arith) (must_not _ _ _ (λ e. omega arith) (λ e. omega arith))))))
    (must_not _ _ _ (λ e. omega arith) (tiles_other n t (tile_of (word_at bs p) ∷ seen) bs _)))

entries_other : (q least : ℕ) (section : List ℕ) (p : ℕ) → Other (entries_check q least section p)
unfolding entries_check
entries_other zero least section p = λ e. omega arith
entries_other (suc q) least section p = must_not _ _ _ (λ e. omega arith) (must_not _ _ _ (λ e. omega arith) (entries_other q _ section _))

roster_other : (ts : List Tile) (section : List ℕ) → Other (roster_check ts section)
unfolding roster_check
roster_other ts section = must_not _ _ _ (λ e. omega arith) (else_not _ _ (entries_other _ 0 section _) (must_not _ _ _ (λ e. omega arith) (must_not _ _ _ (λ e. omega arith) (λ e. omega arith))))

file_other : (m : ℕ) (bs : List ℕ) → Other (file_check m bs)
unfolding file_check
file_other m bs =
    must_not _ _ _ (λ e. omega arith) (must_not _ _ _ (λ e. omega arith) (must_not _ _ _ (λ e. omega arith) (must_not _ _ _ (λ e. omega arith)
    (else_not _ _ (tiles_other (file_order bs) _ [] bs _) (roster_other _ _)))))

read_clear : (bs : List ℕ) → Clear (read_bed bs)
read_clear bs = record { upto = le_refl _; blank = λ z h l. absurd (omega (arith, place_of_lt (read_bed bs).kind (file_order bs) z h)) }

pub step_clear : (m : ℕ) (b : Bed) (c : Call) → Clear b → Passes (plain_step m b c)
unfolding plain_step
step_clear m b (fresh k n) h = plainly_clear b _ (fresh_bed k n) (order_other n) (λ e. fresh_clear k n) h
step_clear m b (feed bytes) h = feed_clear m b bytes h
step_clear m b (claim c k a) h = plainly_clear b (claim_bed_check m b c k a) (claimed_bed b c k a) (claim_other m b c k a h) (claim_clear m b c k a h) h
step_clear m b (read bytes) h = plainly_clear b (file_check m bytes) (read_bed bytes) (file_other m bytes) (λ e. read_clear bytes) h

-- the call that begins a list, whatever was there before
begun : (b next : Bed) (r : ℕ) → r ≡ accepted → Clear next → Passes (plainly b r next)
unfolding unless
begun b next zero e h = record { clear = h; other = λ q. omega arith }
begun b next (suc r) e h = absurd (omega arith)

pub begin_clear : (m : ℕ) (b : Bed) (c : Call) → Begins m c → Passes (plain_step m b c)
unfolding plain_step
begin_clear m b (fresh k n) h = begun b (fresh_bed k n) _ (must_on order_too_large accepted (test_leb n highest_order) h) (fresh_clear k n)
begin_clear m b (feed bytes) h = absurd h
begin_clear m b (claim c k a) h = absurd h
begin_clear m b (read bytes) h = begun b (read_bed bytes) (file_check m bytes) h (read_clear bytes)

pub record ListPasses (m : ℕ) (b : Bed) (cs : List Call) : Type 0 where
  pub others : (a : Answer) → Memᴰ a (plain_answers m b cs) → Other a.number
  pub clear : Clear (plain_left m b cs)

pub list_more : (m : ℕ) (b : Bed) (c : Call) (cs : List Call) → Passes (plain_step m b c) → ListPasses m (plain_step m b c).bed cs → ListPasses m b (c ∷ cs)
unfolding plain_answers plain_left
list_more m b c cs p r = record {
  others = λ a i. elim (Memᴰ.cases_cons i) [ inl e ↦ rw e p.other | inr j ↦ r.others a j ];
  clear = r.clear;
}

pub list_clear : (m : ℕ) (b : Bed) (cs : List Call) → Clear b → ListPasses m b cs
unfolding plain_answers plain_left
list_clear m b [] h = record { others = λ a i. absurd (Memᴰ.not-nil i); clear = h }
list_clear m b (c ∷ cs) h = let p = step_clear m b c h in list_more m b c cs p (list_clear m (plain_step m b c).bed cs p.clear)

pub left_opening : {m : ℕ} {s : State} {b : Bed} → Kept m s b → Clear b → opening s.scan s.slots ≡ accepted
unfolding must
left_opening {m} {s} {b} k h = rw k.is (kept_opening b k.good ∙ rw (clear_none b h))
