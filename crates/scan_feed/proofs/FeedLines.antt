-- A stretch of quads in Morton order fed at once.
--     fed_line   it is as if its accounts had been fed one by one: none is refused, and the list is that of their raster
use mathlib.Core.Path.{◌≡◌, refl, ap, sym, ◌∙◌}
use mathlib.Core.List.{List}
use Prim.Native.Nat.{ℕ, ◌+◌, ◌-◌, ◌^◌, ◌≤◌, ◌<◌}
use native.Mathlib.Omega.{arith}
use lib.ListN.{length, get_or}
use Rattle.tile.specs.Slots.{tiles}
use Rattle.quadtree.specs.Quadtree.{quadtree}
use Rattle.quadtree.proofs.Alignment.{area_pos}
use Rattle.quadtree.proofs.ValidLaws.{quadtree_cong}
use Rattle.bed.specs.Places.{place_of}
use Rattle.bed.specs.declared.Kind.TheVariants.{Morton}
use Rattle.scan_gap.specs.Gap.{held, Fits}
use Rattle.scan_gap.proofs.Parts.{held_length}
use Rattle.scan_stretch.specs.Stretch.{laid, Over}
use Rattle.scan_stretch.proofs.Laid.{laid_over, over_same}
use Rattle.scan_stretch.proofs.Fed.{Taken, fed_stretch}
use Rattle.scan_stretch.proofs.Lines.{line_length}
use Rattle.scan_block.specs.Blocks.{mixed, Site, Built, Advances, Line}
use Rattle.scan_block.proofs.Advance.{mixed_in, mixed_out}
use Rattle.scan_suit.specs.Suits.{StretchTaken}
use Rattle.scan_feed.specs.Feeding.{Trails, Holds, FedOn}
use Rattle.scan_feed.proofs.FeedTurns.{up_to}

module _ (n : ℕ) (bytes : List ℕ) (j p : ℕ) (s : List ℕ) (i b l : ℕ) (fits : Fits s i b) (trails : Trails Morton s i b p) (some : 0 < l) (line : StretchTaken n bytes p j (b - i) l) where
  -- the account of a number of the stretch
  abbrev given : ℕ → ℕ
  given z = get_or bytes (j + (z - p)) 0

  given_at : (x : ℕ) → get_or bytes (j + x) 0 ≡ given (p + x)
  given_at x = let q : j + x ≡ j + (p + x - p) = omega arith in ap (λ (y : ℕ). get_or bytes y 0) q

  -- in Morton order a pixel's place is its number
  mixed_over : (f : ℕ → ℕ) (m : ℕ) → Over Morton n p m f given (mixed f given p (p + m))
  unfolding place_of
  mixed_over f m = record {
    inside = λ z h u v. mixed_in f given p (p + m) z u v;
    ahead = λ z h u. mixed_out f given p (p + m) z (λ c. omega (arith, c.0));
    behind = λ z h u. mixed_out f given p (p + m) z (λ c. omega (arith, c.1));
  }

  module _ (f : ℕ → ℕ) (h : Holds Morton n p f (tiles (held s i b))) where
    blank : (z : ℕ) → z < 4 ^ n → p ≤ z → f z ≡ 0
    unfolding place_of
    blank z v u = h.blank z v u

    -- each list on the way is short enough
    room : (m : ℕ) (e : ℕ → ℕ) → m ≤ l → Over Morton n p m f given e → length (quadtree n e) ≤ length s
    unfolding place_of
    room m e v o = omega (
      arith,
      sym (ap length h.is) ∙ held_length s i b fits.0 fits.1,
      fits,
      line.slots,
      line_length f e p l line.aligned line.quads n line.places some (λ z u w. blank z (omega (arith, line.places)) u) (λ z u. o.ahead z (omega (arith, line.places)) u) (λ z w u. o.behind z w (omega arith)),
    )

    site : Site (length s) n f given p (p + l)
    site = record {
      inside = line.places;
      last = λ z k c u v al a e w. blank (c + 4 ^ k - 1) (omega (arith, area_pos k)) (omega arith);
      room = λ x u v. (let q : p + (x - p) ≡ x = omega arith in room (x - p) (mixed f given p x) (omega arith) (rw q at (mixed_over f (x - p))));
    }

    start : Built n f given p p s i b
    start = record {
      low = (trails refl).1;
      high = λ v. absurd (omega (arith, (trails refl).0));
      list = h.is ∙ quadtree_cong n f (mixed f given p p) (λ z v. sym (mixed_out f given p p z (λ c. omega (arith, c.0, c.1))));
    }

    taken : Taken (length s) Morton n f given p j bytes l
    taken = record {
      places = line.places;
      given = line.given.there;
      are = λ x u. given_at x;
      low = λ x u. rw (← given_at x) (line.given.low x u);
      slots = λ m u. room m (laid Morton n p given m f) u (laid_over Morton n p f given m (omega (arith, line.places)));
    }

    module _ (t : List ℕ) (x : ℕ) (adv : Advances s t i b p (p + l) (Line bytes j l p) x) where
      end : Built n f given p (p + l) t x b
      end = adv.on n f given p (p + l) site (omega arith) (omega arith) (λ y u. sym (given_at y)) start

      laid_is : tiles (held t x b) ≡ quadtree n (laid Morton n p given l f)
      laid_is = end.list ∙ quadtree_cong n (mixed f given p (p + l)) (laid Morton n p given l f) (over_same Morton n p f given l (mixed f given p (p + l)) (laid Morton n p given l f) (mixed_over f l) (laid_over Morton n p f given l line.places))

  pub fed_line : (t : List ℕ) (x y : ℕ) → y ≡ l → Advances s t i b p (p + l) (Line bytes j l p) x → length t ≡ length s → FedOn Morton n bytes j p s t i b (up_to (j + l) (p + y) x b)
  fed_line t x y ey adv len = rw ey (record {
    fits = (adv.fits, omega (arith, fits));
    along = omega arith;
    within = line.places;
    given = line.given.there;
    on = λ f h. record {
      raster = laid Morton n p given l f;
      holds = record {
        is = laid_is f h t x adv;
        within = line.places;
        blank = λ z v u. (laid_over Morton n p f given l line.places).behind z v u ∙ h.blank z v (omega arith);
      };
      trails = λ e q. ((trails q).0 ∙ sym len, (end f h t x adv).low);
      goes = λ e. fed_stretch (length s) Morton n f given p j bytes l (taken f h);
      stops = λ e. absurd (e refl);
    };
  })
