-- Spans of bytes, rectangles of them and tiles, each put together from the one before.
--     span_filled                a part of the bytes that is filled
--     rectangle_none, -more      an empty rectangle, and one with a row more
--     RowFits, row_fits          a row of a square lies in the raster, and its bytes have small positions
--     Measured, measured         what is taken from a tile: the side of the bed, and the column, row and side of its square
--     measured_fits              the square lies in the raster
--     measured_tile              the square is the tile
use mathlib.Core.Path.{◌≡◌, refl, ap, sym, ◌∙◌}
use mathlib.Core.List.{List}
use Prim.Native.Nat.{ℕ, suc, ◌+◌, ◌*◌, ◌^◌, ◌≤◌, ◌<◌}
use native.Mathlib.Omega.{arith}
use native.Mathlib.Decide.{dec_lt}
use native.Mathlib.Nat.{mul-le-mul_right, pow-le-pow_right}
use lib.ListN.{length, replicate}
use borrow.Rule.Slice.PartMut.{put_mid}
use Rattle.std.proofs.Common.{rules}
use Rattle.std.proofs.lemmas.List.{places}
use Rattle.morton.specs.Morton.{column, row, Square, side_bits}
use Rattle.morton.proofs.MortonLaws.{column_lt, column_wide, row_wide}
use Rattle.morton.proofs.Squares.{block_square, square_block, column_room, row_room}
use Rattle.tile.specs.declared.Tile.{Tile}
use Rattle.tile.specs.Tile.{highest_order}
use Rattle.quadtree.specs.Raster.{Covers, Quadrant}
use Rattle.quadtree.proofs.Alignment.{cmp, below, same, above}
use Rattle.bed.specs.Places.{place_of}
use Rattle.bed.proofs.PlaceLaws.{area_sides}
use Rattle.decode.specs.Filled.{SpanFilled, Within, RectangleFilled, TileFilled}

-- a part of the bytes is filled
pub span_filled : (xs : List ℕ) (from k m a : ℕ) → from + k ≤ length xs → m ≡ k → SpanFilled xs from (from + k) a (put_mid from m xs (replicate k a))
span_filled xs from k m a h e = rw e (record {
  long = search (rules, places);
  inside = λ p l u. search (rules, places);
  outside = λ p out. elim (dec_lt p from) [
    | yes b ↦ search (rules, places)
    | no b ↦ let c : from + k ≤ p = elim (dec_lt p (from + k)) [ yes d ↦ absurd (out (omega arith) d) | no d ↦ omega arith ] in search (rules, places)
  ];
})

-- a byte between two of one row is in that row
in_row : (width c r d s : ℕ) → c < width → r * width + c < s * width + d → d ≤ width → s * width ≤ r * width + c → r ≡ s
in_row width c r d s h l g k = elim (cmp r s) [
  | below b ↦ absurd (omega (arith, mul-le-mul_right width b))
  | same e ↦ e
  | above b ↦ absurd (omega (arith, mul-le-mul_right width b))
]

module _ {width column row columns a : ℕ} {xs : List ℕ} where
  pub rectangle_none : RectangleFilled width xs column row columns 0 a xs
  rectangle_none = record { long = refl; inside = λ c r h w. absurd (omega (arith, w.north, w.south)); outside = λ c r h out. refl }

  pub rectangle_more : {rows : ℕ} {ys zs : List ℕ} → column + columns ≤ width → RectangleFilled width xs column row columns rows a ys
      → SpanFilled ys ((row + rows) * width + column) ((row + rows) * width + column + columns) a zs → RectangleFilled width xs column row columns (rows + 1) a zs
  rectangle_more {rows} {ys} {zs} room p q = record {
    long = q.long ∙ p.long;
    inside = λ c r h w. elim (dec_lt r (row + rows)) [
      | yes b ↦
          q.outside (r * width + c) (λ u v. omega (arith, in_row width c r (column + columns) (row + rows) h (omega arith) room (omega arith)))
          ∙ p.inside c r h (record { west = w.west; east = w.east; north = w.north; south = b })
      | no b ↦
          let e : r ≡ row + rows = omega (arith, w.south) in
          let m = ap (λ (x : ℕ). x * width) e in
          q.inside (r * width + c) (omega (arith, w.west)) (omega (arith, w.east))
    ];
    outside = λ c r h out.
        q.outside (r * width + c) (λ u v.
        let e = in_row width c r (column + columns) (row + rows) h (omega arith) room (omega arith) in
        let m = ap (λ (x : ℕ). x * width) e in
        out (record { west = omega arith; east = omega arith; north = omega arith; south = omega arith }))
        ∙ p.outside c r h (λ w. out (record { west = w.west; east = w.east; north = w.north; south = omega (arith, w.south) }));
  }

pub record RowFits (len from side : ℕ) : Type 0 where
  pub within : from + side ≤ len
  pub small : from + side ≤ 4 ^ highest_order

pub row_fits : (width len column row side y : ℕ) → width ≤ 2 ^ highest_order → column + side ≤ width → row + side ≤ width → len ≡ width * width → y < side → RowFits len ((row + y) * width + column) side
row_fits width len column row side y w c r e l =
    let g : suc (row + y) ≤ width = omega arith in
    let m = mul-le-mul_right width g in
    let k = mul-le-mul_right width w in
    record { within = omega arith; small = omega arith }

-- a pixel of a tile lies in its square, and only such a pixel
covers_square : {n : ℕ} {t : Tile} (z : ℕ) → Quadrant n t → Covers t z → Within (column n t.corner) (row n t.corner) (2 ^ t.size) (2 ^ t.size) (column n z) (row n z)
covers_square {n} {t} z q c =
    let e = q.aligned.is in
    let s = rw (← e) at (block_square n t.size q.aligned.times z q.fits (omega (arith, c.0)) (omega (arith, c.1))) in
    record { west = s.west; east = s.east; north = s.north; south = s.south }

square_covers : {n : ℕ} {t : Tile} (z : ℕ) → Quadrant n t → z < 4 ^ n → Within (column n t.corner) (row n t.corner) (2 ^ t.size) (2 ^ t.size) (column n z) (row n z) → Covers t z
square_covers {n} {t} z q h w =
    let e = q.aligned.is in
    let s : Square n t.size t.corner (column n z) (row n z) = record { west = w.west; east = w.east; north = w.north; south = w.south } in
    let b = square_block n t.size q.aligned.times z q.fits (omega (arith, q.inside)) h (rw e at s) in
    (omega (arith, b.0), omega (arith, b.1))

rectangle_tile : {n : ℕ} {t : Tile} {xs ys : List ℕ} → Quadrant n t
    → RectangleFilled (2 ^ n) xs (column n t.corner) (row n t.corner) (2 ^ t.size) (2 ^ t.size) t.account ys → TileFilled n t xs ys
unfolding place_of
rectangle_tile {n} q p = record {
  long = p.long;
  inside = λ z h c. p.inside (column n z) (row n z) (column_lt n z) (covers_square z q c);
  outside = λ z h out. p.outside (column n z) (row n z) (column_lt n z) (λ w. out (square_covers z q h w));
}

pub record Measured (n : ℕ) (t : Tile) (w c r s : ℕ) : Type 0 where
  pub width : w ≡ 2 ^ n
  pub west : c ≡ column n t.corner
  pub north : r ≡ row n t.corner
  pub side : s ≡ 2 ^ t.size

-- as code takes them from a tile
pub measured : {n : ℕ} {t : Tile} {w c r s : ℕ} → n ≤ highest_order → Quadrant n t → w ≡ 2 ^ n → c ≡ column side_bits t.corner → r ≡ row side_bits t.corner → s ≡ 2 ^ t.size → Measured n t w c r s
measured {n} {t} h q ew ec er es = record {
  width = ew;
  west = ec ∙ column_wide n side_bits t.corner h q.inside;
  north = er ∙ row_wide n side_bits t.corner h q.inside;
  side = es;
}

module _ {n : ℕ} {t : Tile} {w c r s : ℕ} (q : Quadrant n t) (m : Measured n t w c r s) where
  pub measured_fits : (len : ℕ) → n ≤ highest_order → len ≡ 4 ^ n → (w ≤ 2 ^ highest_order) × (c + s ≤ w) × (r + s ≤ w) × (len ≡ w * w)
  measured_fits len h l =
      let e = q.aligned.is in
      let p : 2 ^ n ≤ 2 ^ highest_order = pow-le-pow_right (omega arith) h in (
        omega (arith, m.width),
        omega (arith, m.width, m.west, m.side, rw (← e) at (column_room n t.size q.aligned.times q.fits)),
        omega (arith, m.width, m.north, m.side, rw (← e) at (row_room n t.size q.aligned.times q.fits)),
        rw m.width (l ∙ sym (area_sides n)),
      )

  pub measured_tile : {xs ys : List ℕ} → RectangleFilled w xs c r s s t.account ys → TileFilled n t xs ys
  measured_tile p = rectangle_tile q (rw (m.width, m.west, m.north, m.side) at p)
