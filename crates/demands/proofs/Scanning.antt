-- Feeds from a fresh scan: what is kept is the raster of the pixels taken.
--     put_raster             one more pixel
--     feed_scanned           a feed takes some bytes, and puts just those on their places
--     feed_counted           it answers as many as it takes
--     scan_kept, scan_counted   the same of a list of feeds from a fresh scan
use mathlib.Core.Path.{◌≡◌, refl, ap, sym, ◌∙◌}
use mathlib.Core.Bool.{false}
use mathlib.Core.List.{List, [], ◌∷◌, ◌++◌, append_assoc, append-nil}
use Prim.Native.Nat.{ℕ, suc, ◌+◌, ◌^◌, ◌≤◌, ◌<◌}
use native.Mathlib.Omega.{arith}
use lib.ListN.{length, take, get_or, replicate, length-append, get_or-append, get_or-eq_default}
use lib.Seq.{get_or_at, length-take-le}
use Rattle.basics.specs.Choice.{if}
use Rattle.basics.proofs.Tests.{test_leb}
use Rattle.refusal.specs.Refusal.{accepted, order_too_large}
use Rattle.refusal.specs.Checks.{unless}
use Rattle.refusal.proofs.CheckLaws.{must_on, by_unless}
use Rattle.tile.specs.Tile.{highest_order}
use Rattle.quadtree.specs.Raster.{paint}
use Rattle.quadtree.proofs.Alignment.{Cmp, cmp, below, same, above}
use Rattle.quadtree.proofs.Shown.{paint_in, paint_out}
use Rattle.quadtree.proofs.ValidLaws.{quadtree_cong}
use Rattle.bed.specs.declared.Kind.{Kind}
use Rattle.bed.specs.Places.{scan_of, place_of, pixel_at}
use Rattle.bed.specs.Bed.{Bed, bed_of, BedFed, stopped, put_pixel, pixel_check, feed_pixels, feed_bed, has_unscanned}
use Rattle.bed.proofs.PlaceLaws.{place_of_pixel_at, pixel_at_place_of}
use Rattle.bed.proofs.BedLaws.{Agree, Good, put, put_good, pixel_check_passed, FedAlike, feed_pixels_alike}
use Rattle.scan.specs.FreshScan.{fresh_of}
use Rattle.demands.specs.Calls.{Answer, State, step, plain_step, plain_fed, feed}
use Rattle.demands.specs.Demands.{fresh_state, after_feeds, taken, counts_answered, scan_raster, scan_bed}
use Rattle.demands.proofs.Kept.{kept_by, Kept}
use Rattle.demands.proofs.UnscannedAlike.{blank_none}
use Rattle.demands.proofs.CallSteps.{Agrees, fresh_kept, step_agrees}

-- what is kept goes by the raster's accounts on the bed
good_agree : {m n s : ℕ} {f g : ℕ → ℕ} → Agree n f g → Good m n s f → Good m n s g
good_agree {n = n} {f = f} {g = g} e w = record { order = w.order; scanned = w.scanned; accounts = λ z h. omega (arith, e z h, w.accounts z h); room = rw (← quadtree_cong n f g e) w.room }

kept_agree : {m : ℕ} {t : State} (k : Kind) (n s : ℕ) (f g : ℕ → ℕ) → Agree n f g → Kept m t (bed_of k n s f) → Kept m t (bed_of k n s g)
kept_agree {m} k n s f g e w = record { is = w.is ∙ between; good = good_agree e w.good }
  where
    between : kept_by m (bed_of k n s f) ≡ kept_by m (bed_of k n s g)
    between = rw (quadtree_cong n f g e)

module _ (k : Kind) (n : ℕ) where
  pub put_raster : (px : List ℕ) (a : ℕ) → length px < 4 ^ n → Agree n (put k n (length px) a (scan_raster k n px)) (scan_raster k n (px ++ a ∷ []))
  put_raster px a room y h = go (cmp (place_of k n y) (length px))
    where
      z : ℕ
      z = pixel_at k n (length px)

      f : ℕ → ℕ
      f = scan_raster k n px

      long : length (px ++ a ∷ []) ≡ length px + 1
      long = length-append px (a ∷ [])

      -- no other pixel has that place
      out : (place_of k n y ≡ length px → ⊥) → paint f z (z + 1) a y ≡ f y
      out q = paint_out f z (z + 1) a y (λ i. q (let e : y ≡ z = omega (arith, i.0, i.1) in ap (place_of k n) e ∙ place_of_pixel_at k n (length px) room))

      go : Cmp (place_of k n y) (length px) → paint f z (z + 1) a y ≡ get_or (px ++ a ∷ []) (place_of k n y) 0
      go (below l) = out (λ q. omega arith) ∙ sym (get_or-append px (a ∷ []) 0 (place_of k n y) l)
      go (same e) =
          let q : y ≡ z = sym (pixel_at_place_of k n y h) ∙ ap (pixel_at k n) e in
          paint_in f z (z + 1) a y (omega arith) (omega arith) ∙ sym (get_or_at px a [] 0 (place_of k n y) (sym e))
      go (above l) = out (λ q. omega arith) ∙ get_or-eq_default px 0 {n = place_of k n y} (omega arith) ∙ sym (get_or-eq_default (px ++ a ∷ []) 0 {n = place_of k n y} (omega (arith, long)))

  -- what a feed of some bytes leaves, where j pixels were taken before
  record Took (px bytes : List ℕ) (j : ℕ) (r : BedFed) : Type 0 where
    count : ℕ
    taken : r.taken ≡ j + count
    within : count ≤ length bytes
    raster : ℕ → ℕ
    bed : r.bed ≡ bed_of k n (length (px ++ take count bytes)) raster
    agree : Agree n raster (scan_raster k n (px ++ take count bytes))

  took_none : (number j : ℕ) (px bytes : List ℕ) → Took px bytes j (stopped number j (scan_bed k n px))
  took_none number j px bytes = record { count = 0; taken = omega arith; within = omega arith; raster = scan_raster k n px; bed = rw (append-nil px); agree = λ z h. rw (append-nil px) }

  took_more : (m j a : ℕ) (px bytes : List ℕ) {p q : BedFed} → FedAlike m k n p q → Took (px ++ a ∷ []) bytes (j + 1) q → Took px (a ∷ bytes) j p
  took_more m j a px bytes {p} {q} f t = record {
    count = suc t.count;
    taken = f.taken ∙ t.taken ∙ (omega arith);
    within = omega (arith, t.within);
    raster = f.first;
    bed = f.first_bed ∙ ap (λ (s : ℕ). bed_of k n s f.first) (ap (λ (b : Bed). b.scanned) beds ∙ ap length lists);
    agree = λ z h. f.agree z h ∙ ap (λ (b : Bed). b.account z) beds ∙ t.agree z h ∙ ap (λ (l : List ℕ). scan_raster k n l z) lists;
  }
    where
      lists : (px ++ a ∷ []) ++ take t.count bytes ≡ px ++ a ∷ take t.count bytes
      lists = append_assoc px (a ∷ []) (take t.count bytes)

      beds : bed_of k n f.scanned f.second ≡ bed_of k n (length ((px ++ a ∷ []) ++ take t.count bytes)) t.raster
      beds = sym f.second_bed ∙ t.bed

  -- one pixel that is not refused, and then the rest
  pixel_took : (m j a : ℕ) (px bytes : List ℕ) → Good m n (length px) (scan_raster k n px) →
      (Good m n (length (px ++ a ∷ [])) (scan_raster k n (px ++ a ∷ [])) → Took (px ++ a ∷ []) bytes (j + 1) (feed_pixels m (j + 1) (scan_bed k n (px ++ a ∷ [])) bytes)) →
      Took px (a ∷ bytes) j (feed_pixels m j (scan_bed k n px) (a ∷ bytes))
  unfolding feed_pixels put_pixel
  pixel_took m j a px bytes w rest = by_unless (Took px (a ∷ bytes) j) (pixel_check m (scan_bed k n px) a) (λ r. took_none r j px (a ∷ bytes)) (λ p.
      let v = pixel_check_passed p in
      let e = put_raster px a (omega (arith, w.scanned, v.going)) in
      let g : Good m n (length px + 1) (scan_raster k n (px ++ a ∷ [])) = good_agree e (put_good m k n (length px) a (scan_raster k n px) w v) in
      let l : length (px ++ a ∷ []) ≡ length px + 1 = length-append px (a ∷ []) in
      took_more m j a px bytes (feed_pixels_alike m k n (j + 1) (length px + 1) _ _ bytes e g) (rw l at (rest (rw l g))))

  feed_pixels_took : (m j : ℕ) (px bytes : List ℕ) → Good m n (length px) (scan_raster k n px) → Took px bytes j (feed_pixels m j (scan_bed k n px) bytes)
  unfolding feed_pixels
  feed_pixels_took m j px [] w = took_none accepted j px []
  feed_pixels_took m j px (a ∷ bytes) w = pixel_took m j a px bytes w (λ v. feed_pixels_took m (j + 1) (px ++ a ∷ []) bytes v)

  scanned_clear : (px : List ℕ) → has_unscanned (scan_bed k n px) ≡ false
  scanned_clear px = blank_none k n (length px) 0 (scan_raster k n px) (λ z h l. get_or-eq_default px 0 {n = place_of k n z} l)

  plain_feed : (m : ℕ) (px bytes : List ℕ) → plain_step m (scan_bed k n px) (feed bytes) ≡ plain_fed (feed_pixels m 0 (scan_bed k n px) bytes)
  unfolding plain_step feed_bed if
  plain_feed m px bytes = rw (scanned_clear px)

  module _ {m : ℕ} {t : State} (px bytes : List ℕ) (w : Kept m t (scan_bed k n px)) where
    took : Took px bytes 0 (feed_pixels m 0 (scan_bed k n px) bytes)
    took = feed_pixels_took m 0 px bytes w.good

    agrees : Agrees m (step t (feed bytes)) (plain_fed (feed_pixels m 0 (scan_bed k n px) bytes))
    agrees = rw (← plain_feed m px bytes) (step_agrees (feed bytes) w)

    count_taken : (step t (feed bytes)).answer.taken ≡ took.count
    count_taken = ap (λ (a : Answer). a.taken) agrees.answer ∙ took.taken ∙ (omega arith)

    pub feed_scanned : Kept m (step t (feed bytes)).state (scan_bed k n (px ++ take (step t (feed bytes)).answer.taken bytes))
    feed_scanned = rw count_taken (kept_agree k n (length (px ++ take took.count bytes)) took.raster (scan_raster k n (px ++ take took.count bytes)) took.agree (rw took.bed at agrees.kept))

    pub feed_counted : (step t (feed bytes)).answer.taken ≡ length (take (step t (feed bytes)).answer.taken bytes)
    feed_counted = sym (length-take-le (step t (feed bytes)).answer.taken bytes (omega (arith, count_taken, took.within)))

  feeds_more : {m : ℕ} (t : State) (px bytes : List ℕ) (feeds : List (List ℕ)) →
      Kept m (after_feeds (step t (feed bytes)).state feeds) (scan_bed k n ((px ++ take (step t (feed bytes)).answer.taken bytes) ++ taken (step t (feed bytes)).state feeds)) →
      Kept m (after_feeds t (bytes ∷ feeds)) (scan_bed k n (px ++ taken t (bytes ∷ feeds)))
  unfolding after_feeds taken
  feeds_more t px bytes feeds w = rw append_assoc at w

  pub after_feeds_scanned : {m : ℕ} {t : State} (px : List ℕ) (feeds : List (List ℕ)) → Kept m t (scan_bed k n px) → Kept m (after_feeds t feeds) (scan_bed k n (px ++ taken t feeds))
  unfolding after_feeds taken
  after_feeds_scanned px [] w = rw (append-nil px) w
  after_feeds_scanned {m} {t} px (bytes ∷ feeds) w = feeds_more t px bytes feeds (after_feeds_scanned {t = (step t (feed bytes)).state} (px ++ take (step t (feed bytes)).answer.taken bytes) feeds (feed_scanned px bytes w))

  counted_more : (t : State) (bytes : List ℕ) (feeds : List (List ℕ)) → (step t (feed bytes)).answer.taken ≡ length (take (step t (feed bytes)).answer.taken bytes) →
      counts_answered (step t (feed bytes)).state feeds ≡ length (taken (step t (feed bytes)).state feeds) → counts_answered t (bytes ∷ feeds) ≡ length (taken t (bytes ∷ feeds))
  unfolding counts_answered taken
  counted_more t bytes feeds e w = omega (arith, e, w, length-append (take (step t (feed bytes)).answer.taken bytes) (taken (step t (feed bytes)).state feeds))

  after_feeds_counted : {m : ℕ} {t : State} (px : List ℕ) (feeds : List (List ℕ)) → Kept m t (scan_bed k n px) → counts_answered t feeds ≡ length (taken t feeds)
  unfolding counts_answered taken
  after_feeds_counted px [] w = refl
  after_feeds_counted {m} {t} px (bytes ∷ feeds) w = counted_more t bytes feeds (feed_counted px bytes w) (after_feeds_counted {t = (step t (feed bytes)).state} (px ++ take (step t (feed bytes)).answer.taken bytes) feeds (feed_scanned px bytes w))

  fresh_state_lem : (slots : List ℕ) → n ≤ highest_order → fresh_state k n slots ≡ record { scan = scan_of k n 0 0; slots = replicate (length slots) 0 }
  unfolding fresh_of unless
  fresh_state_lem slots h = rw (must_on order_too_large accepted (test_leb n highest_order) h)

  fresh_scanned : (slots : List ℕ) → n ≤ highest_order → Kept (length slots) (fresh_state k n slots) (scan_bed k n [])
  fresh_scanned slots h = rw (fresh_state_lem slots h) (fresh_kept (length slots) (length slots) refl k n h)

  pub scan_kept : (slots : List ℕ) (feeds : List (List ℕ)) → n ≤ highest_order →
      Kept (length slots) (after_feeds (fresh_state k n slots) feeds) (scan_bed k n (taken (fresh_state k n slots) feeds))
  scan_kept slots feeds h = after_feeds_scanned [] feeds (fresh_scanned slots h)

  pub scan_counted : (slots : List ℕ) (feeds : List (List ℕ)) → n ≤ highest_order → counts_answered (fresh_state k n slots) feeds ≡ length (taken (fresh_state k n slots) feeds)
  scan_counted slots feeds h = after_feeds_counted [] feeds (fresh_scanned slots h)
