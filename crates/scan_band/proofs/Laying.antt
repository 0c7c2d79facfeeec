-- A band put block by block from west to east.
--     band_places                    a band's places lie in the bed
--     Laying                         the band is put up to the column x
--     laying-start, -block, -done
--     laying_corner, -legible        the next block
use mathlib.Core.Path.{◌≡◌, refl, ◌∙◌}
use mathlib.Core.List.{List}
use Prim.Native.Nat.{ℕ, ◌+◌, ◌*◌, ◌^◌, ◌≤◌, ◌<◌}
use native.Mathlib.Nat.{mul-le-mul_right, add-mul}
use native.Mathlib.Omega.{arith}
use lib.Pow.{pow_pos}
use lib.ListN.{length}
use Rattle.morton.specs.Morton.{morton, side_bits}
use Rattle.morton.proofs.MortonLaws.{morton_wide}
use Rattle.quadtree.specs.Quadtree.{quadtree}
use Rattle.quadtree.proofs.ValidLaws.{quadtree_cong}
use Rattle.bed.specs.Places.{place_of}
use Rattle.bed.specs.declared.Kind.TheVariants.{Rows}
use Rattle.bed.proofs.PlaceLaws.{area_sides}
use Rattle.scan_stretch.specs.Stretch.{laid, Blank}
use Rattle.scan_stretch.proofs.Laid.{laid_over, over_same}
use Rattle.tile.specs.Slots.{tiles}
use Rattle.scan_gap.specs.Gap.{held, Fits}
use Rattle.scan_gap.specs.declared.Gap.{Gap}
use Rattle.scan_block.specs.Blocks.{mixed, byte_at, Legible, Blocked}
use Rattle.scan_ways.specs.Bands.{first, many, band_weight, BandFits}
use Rattle.scan_band.specs.Banded.{Banded}
use Rattle.scan_ways.proofs.Geometry.{Block, block, places_from, places_upto}
use Rattle.scan_ways.proofs.Parts.{Part, part_none, part_all, part_site, part_more}
use Rattle.scan_ways.proofs.Weights.{block_room}

pub record Laid (s : List ℕ) (top rear n d : ℕ) (bytes : List ℕ) (r k x : ℕ) (f : ℕ → ℕ) : Type 0 where
  pub raster : ℕ → ℕ
  pub part : Part n (first n r) (many n k) x f (byte_at bytes d) raster
  pub list : tiles (held s top rear) ≡ quadtree n raster

pub record Laying (s₀ s : List ℕ) (i b n d : ℕ) (bytes : List ℕ) (r k x top rear : ℕ) : Type 0 where
  pub fits : Fits s top rear
  pub long : length s ≡ length s₀
  pub times : ℕ
  pub column : x ≡ times * 2 ^ k
  pub on : (f : ℕ → ℕ) → Blank Rows n (first n r) f → length (quadtree n f) + band_weight n d bytes r k + 1 ≤ length s₀ → tiles (held s₀ i b) ≡ quadtree n f → Laid s top rear n d bytes r k x f

pub laying_start : (s : List ℕ) (i b n d : ℕ) (bytes : List ℕ) (r k : ℕ) → Fits s i b → Laying s s i b n d bytes r k 0 i b
laying_start s i b n d bytes r k fit = record {
  fits = fit;
  long = refl;
  times = 0;
  column = omega arith;
  on = λ f blank room list. record { raster = f; part = part_none n (first n r) (many n k) f (byte_at bytes d); list = list };
}

module _ {n d : ℕ} {bytes : List ℕ} {r k : ℕ} (band : BandFits n d bytes r k) where
  pub band_places : first n r + many n k ≤ 4 ^ n
  band_places = omega (arith, mul-le-mul_right (2 ^ n) band.rows, add-mul r (2 ^ k) (2 ^ n), area_sides n)

  module _ {s₀ s : List ℕ} {i b x top rear : ℕ} (w : Laying s₀ s i b n d bytes r k x top rear) where
    module _ (l : x < 2 ^ n) where
      here : Block n k x r (morton n x r)
      here = block n k w.times band.times x r band.size w.column band.row l (omega (arith, band.rows, pow_pos k))

      pub laying_corner : (c : ℕ) → c ≡ morton side_bits x r → c ≡ morton n x r
      laying_corner c e = e ∙ morton_wide n side_bits x r band.order l (omega (arith, band.rows, pow_pos k))

      module _ (c : ℕ) (e : c ≡ morton side_bits x r) where
        pub laying_block : Block n k x r c
        laying_block = rw (laying_corner c e) here

        pub laying_legible : Legible n d bytes c (c + 4 ^ k)
        laying_legible z p q =
            let f = places_from n r (2 ^ k) z (laying_block.north z p q) in
            let u = places_upto n r (2 ^ k) z (laying_block.south z p q) in
            (omega (arith, band.start), omega (arith, band.end), band.low (place_of Rows n z) f u)

        pub laying_more : (t : List ℕ) (g : Gap) → length t ≡ length s → Blocked s t top rear n d bytes c (c + 4 ^ k) g → Laying s₀ t i b n d bytes r k (x + 2 ^ k) g.front g.back
        laying_more t g len blocked = record {
          fits = blocked.fits;
          long = len ∙ w.long;
          times = w.times + 1;
          column = omega (arith, w.column, add-mul w.times 1 (2 ^ k));
          on = λ f blank room list. more f blank (rw w.long room) (w.on f blank room list);
        }
          where
            more : (f : ℕ → ℕ) → Blank Rows n (first n r) f → length (quadtree n f) + band_weight n d bytes r k + 1 ≤ length s → Laid s top rear n d bytes r k x f → Laid t g.front g.back n d bytes r k (x + 2 ^ k) f
            more f blank room v = record {
              raster = mixed v.raster (λ z. byte_at bytes d (place_of Rows n z)) c (c + 4 ^ k);
              part = part_more n k x r c f (byte_at bytes d) v.raster laying_block v.part;
              list = blocked.on v.raster (λ z. byte_at bytes d (place_of Rows n z)) (part_site n k x r c f (byte_at bytes d) v.raster laying_block v.part (length s) blank (λ y u. omega (arith, room, block_room d bytes n r k x w.times c band w.column f v.raster laying_block v.part blank y u))) (λ z p q. refl) v.list;
            }

    pub laying_done : 2 ^ n ≤ x → Banded s₀ s i b n d bytes r k (record { front = top; back = rear })
    laying_done l = record {
      fits = w.fits;
      on = λ f blank room list.
          let v = w.on f blank room list in
          let p = first n r in
          let m = many n k in
          v.list ∙ quadtree_cong n v.raster (laid Rows n p (byte_at bytes d) m f) (over_same Rows n p f (byte_at bytes d) m v.raster (laid Rows n p (byte_at bytes d) m f) (part_all n p m x f (byte_at bytes d) v.raster l v.part) (laid_over Rows n p f (byte_at bytes d) m band_places));
    }
