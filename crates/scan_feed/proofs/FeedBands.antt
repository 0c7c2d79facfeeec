-- A band fed at once.
--     fed_band   it is as if its accounts had been fed one by one: none is refused, and the list is that of their raster
use mathlib.Core.Path.{◌≡◌, ◌∙◌, refl, ap, sym}
use mathlib.Core.List.{List}
use Prim.Native.Nat.{ℕ, ◌+◌, ◌-◌, ◌^◌, ◌≤◌, ◌<◌}
use native.Mathlib.Nat.{mul-le-mul_right}
use native.Mathlib.Omega.{arith}
use lib.Pow.{pow_pos}
use lib.ListN.{length, get_or}
use Rattle.quadtree.specs.Quadtree.{quadtree}
use Rattle.tile.specs.Slots.{tiles}
use Rattle.bed.specs.declared.Kind.TheVariants.{Rows}
use Rattle.scan_gap.specs.Gap.{held, Fits}
use Rattle.scan_gap.specs.declared.Gap.{Gap}
use Rattle.scan_gap.proofs.Parts.{held_length}
use Rattle.scan_stretch.specs.Stretch.{laid}
use Rattle.scan_stretch.proofs.Laid.{laid_over}
use Rattle.scan_stretch.proofs.Fed.{Taken, fed_stretch}
use Rattle.scan_block.specs.Blocks.{byte_at}
use Rattle.scan_ways.specs.Bands.{first, many, band_weight}
use Rattle.scan_band.specs.Banded.{Banded}
use Rattle.scan_band.proofs.Laying.{band_places}
use Rattle.scan_ways.proofs.Weights.{row_room}
use Rattle.scan_suit.specs.Suits.{BandTaken}
use Rattle.scan_feed.specs.Feeding.{Holds, FedOn}
use Rattle.scan_feed.proofs.NextPlace.{rows_morton}
use Rattle.scan_feed.proofs.FeedTurns.{up_to}

module _ (n d : ℕ) (bytes : List ℕ) (j p : ℕ) (s : List ℕ) (i b r k : ℕ) (fits : Fits s i b) (along : p ≡ d + j) (band : BandTaken n d bytes p (b - i) r k) where
  abbrev len : ℕ
  len = many n k

  abbrev given : ℕ → ℕ
  given = byte_at bytes d

  pub band_given : j + len ≤ length bytes
  band_given = omega (arith, along, band.place, band.fits.end)

  pub band_within : p + len ≤ 4 ^ n
  band_within = omega (arith, band.place, band_places band.fits)

  pub band_some : 0 < len
  band_some = let h : 1 ≤ 2 ^ k = pow_pos k in omega (arith, mul-le-mul_right (2 ^ n) h, pow_pos n)

  module _ (f : ℕ → ℕ) (h : Holds Rows n p f (tiles (held s i b))) where
    slots : length (quadtree n f) + band_weight n d bytes r k + 1 ≤ length s
    slots = omega (arith, sym (ap length h.is) ∙ held_length s i b fits.0 fits.1, band.slots, fits)

    taken : Taken (length s) Rows n f given p j bytes len
    taken = record {
      places = band_within;
      given = band_given;
      are = λ x l. (let q : j + x ≡ p + x - d = omega arith in ap (λ (y : ℕ). get_or bytes y 0) q);
      low = λ x l. band.fits.low (p + x) (omega (arith, band.place)) (omega (arith, band.place));
      slots = λ l u.
          let o = laid_over Rows n (first n r) f given l (omega (arith, band_within, band.place)) in
          let q = row_room d bytes n r k band.fits f (laid Rows n (first n r) given l f) l (rw band.place at h.blank) u o in
          rw band.place (omega (arith, slots, q));
    }

  pub fed_band : (t : List ℕ) (g : Gap) (x : ℕ) → x ≡ len → Banded s t i b n d bytes r k g → FedOn Rows n bytes j p s t i b (up_to (j + x) (p + x) g.front g.back)
  fed_band t g x ex banded = rw ex (record {
    fits = banded.fits;
    along = omega arith;
    within = band_within;
    given = band_given;
    on = λ f h. record {
      raster = laid Rows n p given len f;
      holds = record {
        is = rw (← band.place) at (banded.on f (rw band.place at h.blank) (slots f h) h.is);
        within = band_within;
        blank = λ z l u. (laid_over Rows n p f given len band_within).behind z l u ∙ h.blank z l (omega arith);
      };
      trails = λ e q. absurd (rows_morton Rows refl q);
      goes = λ e. fed_stretch (length s) Rows n f given p j bytes len (taken f h);
      stops = λ e. absurd (e refl);
    };
  })
