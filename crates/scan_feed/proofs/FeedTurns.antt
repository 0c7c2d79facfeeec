-- The turns of a feed: from the slots on, the plain bed's feed goes on, or stops, as told.
--     fed_none                  no account yet
--     fed_then                  one feed behind the other
--     fed_stop, fed_pixel       an account is refused, or accepted
--     opened_none               the start of a feed
--     fed_refused, fed_end      its end
use mathlib.Core.Path.{◌≡◌, ◌∙◌, refl, ap, sym}
use mathlib.Core.List.{List, [], ◌∷◌}
use Prim.Native.Nat.{ℕ, ◌+◌, ◌-◌, ◌^◌, ◌<◌, ◌≤◌}
use native.Mathlib.Numerals.{add-one}
use native.Mathlib.Decide.{dec_lt}
use native.Mathlib.Omega.{arith}
use lib.ListN.{length, drop, get_or}
use lib.Seq.{drop-cons, drop-length}
use Rattle.refusal.specs.Refusal.{accepted}
use Rattle.refusal.proofs.CheckLaws.{unless_on, unless_off}
use Rattle.tile.specs.Tile.{tile_of}
use Rattle.tile.specs.Slots.{tiles, tiles_in}
use Rattle.tile.proofs.SlotTiles.{tiles_in_in}
use Rattle.quadtree.specs.Raster.{account_at}
use Rattle.quadtree.proofs.Tiling.{on_corner, placed}
use Rattle.quadtree.proofs.ValidLaws.{valid_quadrant, valid_quadtree, valid_tiling}
use Rattle.bed.specs.declared.Kind.{Kind}
use Rattle.bed.specs.declared.Kind.TheVariants.{Morton}
use Rattle.bed.specs.declared.Scan.{Scan}
use Rattle.bed.specs.Places.{place_of}
use Rattle.bed.specs.Bed as bed
use Rattle.bed.specs.Shown.{shown_bed}
use Rattle.scan_gap.specs.Gap.{held, Fits, Low}
use Rattle.scan_gap.proofs.Parts.{held_front}
use Rattle.scan_check.specs.Opened.{Opened}
use Rattle.scan_feed.specs.Feeding.{AfterPixel, AfterPixels, Trails, Holds, Stepped, FedOn, FedTo}
use Rattle.scan_feed.proofs.NextPlace.{holds_next}

module _ (m k : ℕ) (b : bed.Bed) (a : ℕ) (bytes : List ℕ) where
  pixel_stop : (bed.pixel_check m b a ≡ accepted → ⊥) → bed.feed_pixels m k b (a ∷ bytes) ≡ bed.stopped (bed.pixel_check m b a) k b
  unfolding bed.feed_pixels
  pixel_stop h = unless_off _ _ _ h

  pixel_on : bed.pixel_check m b a ≡ accepted → bed.feed_pixels m k b (a ∷ bytes) ≡ bed.feed_pixels m (k + 1) (bed.put_pixel b a) bytes
  unfolding bed.feed_pixels
  pixel_on h = unless_on _ _ _ h

-- how far a feed has come, with k taken, p pixels scanned and the list in slots with a gap from i to b
abbrev pub up_to : ℕ → ℕ → ℕ → ℕ → AfterPixels
up_to k p i b = record { number = accepted; taken = k; pixels = p; front = i; back = b }

module _ (k : Kind) (n : ℕ) (bytes : List ℕ) (j p : ℕ) (s : List ℕ) (i b : ℕ) where
  pub fed_none : Fits s i b → Trails k s i b p → p ≤ 4 ^ n → j ≤ length bytes → FedOn k n bytes j p s s i b (up_to j p i b)
  fed_none fits trails within given = record {
    fits = fits;
    along = refl;
    within = within;
    given = given;
    on = λ f h. record { raster = f; holds = h; trails = λ e. trails; goes = λ e. refl; stops = λ e. absurd (e refl) };
  }

  -- one feed behind the other
  pub fed_then : (t u : List ℕ) (k' p' i' b' : ℕ) (r : AfterPixels) → FedOn k n bytes j p s t i b (up_to k' p' i' b') → length t ≡ length s → FedOn k n bytes k' p' t u i' b' r → FedOn k n bytes j p s u i b r
  fed_then t u k' p' i' b' r v len w = record {
    fits = w.fits;
    along = omega (arith, v.along, w.along);
    within = w.within;
    given = w.given;
    on = λ f h.
        let x = v.on f h in
        let y = rw len at (w.on x.raster x.holds) in
        record { raster = y.raster; holds = y.holds; trails = y.trails; goes = λ e. x.goes refl ∙ y.goes e; stops = λ e. x.goes refl ∙ y.stops e };
  }

  -- an account by itself
  module _ (h : j < length bytes) (a : ℕ) (ea : a ≡ get_or bytes j 0) (t : List ℕ) (r : AfterPixel) (step : Stepped k n p a s t i b r) where
    split : drop j bytes ≡ a ∷ drop (j + 1) bytes
    split = rw (ea, add-one j) (drop-cons bytes j 0 h)

    pub fed_stop : p ≤ 4 ^ n → (r.number ≡ accepted → ⊥) → FedOn k n bytes j p s t i b (record { number = r.number; taken = j; pixels = p; front = r.front; back = r.back })
    fed_stop within q = record {
      fits = step.fits;
      along = refl;
      within = within;
      given = omega arith;
      on = λ f w.
          let o = step.on f w in
          record {
            raster = f;
            holds = record { is = o.kept q ∙ w.is; within = w.within; blank = w.blank };
            trails = λ e. absurd (q e);
            goes = λ e. absurd (q e);
            stops = λ e. rw split (pixel_stop (length s) j (bed.bed_of k n p f) a (drop (j + 1) bytes) (λ z. q (o.number ∙ z)) ∙ rw o.number);
          };
    }

    pub fed_pixel : r.number ≡ accepted → FedOn k n bytes j p s t i b (up_to (j + 1) (p + 1) r.front r.back)
    unfolding bed.put_pixel
    fed_pixel q = record {
      fits = step.fits;
      along = omega arith;
      within = omega (arith, step.going q);
      given = omega arith;
      on = λ f w.
          let o = step.on f w in
          record {
            raster = (bed.put_pixel (bed.bed_of k n p f) a).account;
            holds = holds_next w (step.going q) a (o.done q);
            trails = λ e. step.trails;
            goes = λ e. rw split (pixel_on (length s) j (bed.bed_of k n p f) a (drop (j + 1) bytes) (sym o.number ∙ q));
            stops = λ e. absurd (e refl);
          };
    }

-- in Morton order a tile of the list starts at a pixel that is scanned, since it is somebody's
last_scanned : (c : Scan) (slots : List ℕ) → Opened c slots → c.kind ≡ Morton → Low slots c.tiles c.pixels
unfolding place_of
last_scanned c slots o e h =
    let u = tile_of (get_or slots (c.tiles - 1) 0) in
    let m = tiles_in_in c.tiles slots (c.tiles - 1) (omega arith) o.count in
    let q = valid_quadrant o.valid m in
    elim (dec_lt u.corner c.pixels) [
      | yes l ↦ l
      | no l ↦ absurd (omega (arith, q.owned, on_corner (placed (valid_tiling o.valid) m).on, o.blank u.corner q.inside (rw e (omega arith))))
    ]

-- what the slots of a scan that passed the opening checks hold
module _ (c : Scan) (slots bytes : List ℕ) (o : Opened c slots) where
  pub opened_none : FedOn c.kind c.order bytes 0 c.pixels slots slots c.tiles (length slots) (up_to 0 c.pixels c.tiles (length slots))
  opened_none = fed_none c.kind c.order bytes 0 c.pixels slots c.tiles (length slots) (o.count, omega arith) (λ e. (refl, last_scanned c slots o e)) o.scanned (omega arith)

  pub opened_holds : Holds c.kind c.order c.pixels (account_at (tiles_in c.tiles slots)) (tiles (held slots c.tiles (length slots)))
  unfolding tiles_in
  opened_holds = record { is = ap tiles (held_front slots c.tiles) ∙ valid_quadtree o.valid; within = o.scanned; blank = o.blank }

  module _ (t : List ℕ) (r : AfterPixels) (w : FedOn c.kind c.order bytes 0 c.pixels slots t c.tiles (length slots) r) where
    pub fed_refused : (r.number ≡ accepted → ⊥) → FedTo c (bed.feed_pixels (length slots) 0 (shown_bed c slots) bytes) t r
    fed_refused q =
        let v = w.on (account_at (tiles_in c.tiles slots)) opened_holds in
        rw (v.stops q) (record { number = refl; taken = refl; pixels = refl; kind = refl; order = refl; fits = w.fits; list = v.holds.is })

    pub fed_end : r.number ≡ accepted → r.taken ≡ length bytes → FedTo c (bed.feed_pixels (length slots) 0 (shown_bed c slots) bytes) t r
    unfolding bed.feed_pixels
    fed_end q e =
        let v = w.on (account_at (tiles_in c.tiles slots)) opened_holds in
        let d : drop r.taken bytes ≡ [] = rw e (drop-length bytes) in
        rw (v.goes q, d) (record { number = q; taken = refl; pixels = refl; kind = refl; order = refl; fits = w.fits; list = v.holds.is })
