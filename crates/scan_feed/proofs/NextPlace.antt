-- The next place of a scan: as the shifts of the code compute it, and what it awaits.
--     place_shift, place_sides   its column and its row are numbers, and those of the largest bed
--     place_rows, place_morton   the pixel and its levels, by kind
--     place_low                  it lies in the largest bed
--     rows_morton                the kinds differ
--     place_next                 in Morton order, the pixel with p places before its own is p
--     holds_awaits               where what is not scanned is nobody's, the list awaits the pixel at the next place
--     holds_next                 and with this pixel scanned, what is not scanned is still nobody's
use mathlib.Core.Path.{◌≡◌, ◌∙◌, ap}
use mathlib.Core.List.{List}
use Prim.Native.Nat.{ℕ, ◌+◌, ◌-◌, ◌*◌, ◌/◌, ◌%◌, ◌^◌, ◌≤◌, ◌<◌}
use native.Mathlib.Nat.{div-add-mod', mod-lt, div-lt_iff_lt-mul}
use native.Mathlib.Decide.{dec_lt}
use native.Mathlib.Omega.{arith}
use lib.Pow.{pow_pos, pow_mono}
use Rattle.morton.specs.Morton.{morton, side_bits}
use Rattle.morton.proofs.MortonLaws.{morton_wide}
use Rattle.tile.specs.declared.Tile.{Tile}
use Rattle.tile.specs.Tile.{highest_order}
use Rattle.quadtree.specs.Raster.{Aligned}
use Rattle.quadtree.specs.Quadtree.{quadtree}
use Rattle.quadtree.proofs.Alignment.{area_mono}
use Rattle.quadtree.proofs.Shown.{paint_out}
use Rattle.bed.specs.declared.Kind.{Kind}
use Rattle.bed.specs.declared.Kind.TheVariants.{Rows, Morton}
use Rattle.bed.specs.Places.{place_of, pixel_at}
use Rattle.bed.specs.Bed.{bed_of, put_pixel}
use Rattle.bed.proofs.PlaceLaws.{area_sides, pixel_at_lt, place_of_pixel_at, place_of_last}
use Rattle.quadtree.specs.Tiling.{Levels}
use Rattle.scan_gap.specs.Gap.{Awaits}
use Rattle.scan_feed.specs.Feeding.{AtPlace, Holds}
use Rattle.scan_feed.specs.declared.Place.{Place}

module _ (n s : ℕ) (h : n ≤ highest_order) (l : s < 4 ^ n) where
  abbrev column : ℕ
  column = s - s / 2 ^ n * 2 ^ n % 2 ^ 32

  abbrev row : ℕ
  row = s / 2 ^ n

  pub place_shift : s / 2 ^ n * 2 ^ n % 2 ^ 32 ≤ s
  place_shift = let big : 4 ^ n ≤ 4 ^ highest_order = area_mono h in omega (arith, div-add-mod' s (2 ^ n))

  column_is : column ≡ s % 2 ^ n
  column_is = let big : 4 ^ n ≤ 4 ^ highest_order = area_mono h in omega (arith, div-add-mod' s (2 ^ n))

  row_below : row < 2 ^ n
  row_below = (div-lt_iff_lt-mul (pow_pos n)).1 (omega (arith, area_sides n))

  pub place_sides : (column < 2 ^ highest_order) × (row < 2 ^ highest_order)
  place_sides = let big : 2 ^ n ≤ 2 ^ highest_order = pow_mono h in (omega (arith, column_is, mod-lt s (pow_pos n)), omega (arith, row_below))

  pub place_rows : (k : Kind) (p : Place) → k ≡ Rows → p.z ≡ morton side_bits column row → Levels (morton side_bits column row + 1) p.levels → AtPlace k n s p
  unfolding pixel_at
  place_rows k p e q v = record { z = rw e (q ∙ rw column_is (morton_wide n side_bits (s % 2 ^ n) row h (mod-lt s (pow_pos n)) row_below)); levels = rw (← q) at v }

pub place_morton : (k : Kind) (n s : ℕ) (p : Place) → k ≡ Morton → p.z ≡ s → Levels (s + 1) p.levels → AtPlace k n s p
unfolding pixel_at
place_morton k n s p e q v = record { z = rw e q; levels = rw (← q) at v }

pub place_low : (k : Kind) (n s z : ℕ) → n ≤ highest_order → s < 4 ^ n → z ≡ pixel_at k n s → z < 4 ^ highest_order
place_low k n s z h l e = let big : 4 ^ n ≤ 4 ^ highest_order = area_mono h in omega (arith, pixel_at_lt k n s l)

pub rows_morton : (k : Kind) → k ≡ Rows → k ≡ Morton → ⊥
rows_morton k p q = let z : ◌≡◌ {A = ℕ} 0 1 = cc in omega arith

pub place_next : (k : Kind) (n s : ℕ) → k ≡ Morton → pixel_at k n s ≡ s
unfolding pixel_at
place_next k n s e = rw e

module _ {k : Kind} {n s : ℕ} {f : ℕ → ℕ} {ts : List Tile} (w : Holds k n s f ts) (l : s < 4 ^ n) where
  pub holds_awaits : Awaits n f (pixel_at k n s) ts
  holds_awaits = record {
    is = w.is;
    inside = pixel_at_lt k n s l;
    last = λ j c m h g room. w.blank (c + 4 ^ j - 1) (omega arith) (later j c m h g room);
  }
    where
      z : ℕ
      z = pixel_at k n s

      place : place_of k n z ≡ s
      place = place_of_pixel_at k n s l

      later : (j c : ℕ) → Aligned j c → c ≤ z → z < c + 4 ^ j → c + 4 ^ j ≤ 4 ^ n → s ≤ place_of k n (c + 4 ^ j - 1)
      later j c m h g room = elim (dec_lt (z + 1) (c + 4 ^ j)) [
        | yes i ↦ omega (arith, place, place_of_last k n z m h i room)
        | no i ↦ let q : z ≡ c + 4 ^ j - 1 = omega arith in omega (arith, place, ap (place_of k n) q)
      ]

  pub holds_next : (a : ℕ) {us : List Tile} → us ≡ quadtree n (put_pixel (bed_of k n s f) a).account → Holds k n (s + 1) (put_pixel (bed_of k n s f) a).account us
  unfolding put_pixel
  holds_next a e = record {
    is = e;
    within = omega arith;
    blank = λ y h g.
        let z = pixel_at k n s in
        paint_out f z (z + 1) a y (λ c. let q : y ≡ z = omega (arith, c.0, c.1) in omega (arith, ap (place_of k n) q, place_of_pixel_at k n s l)) ∙ w.blank y h (omega arith);
  }
