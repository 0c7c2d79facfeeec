-- What the bytes of a band weigh, as the quads of the bed, so that the bounds of Ways and BlockWays hold of it.
--     rows_quads     the weight of pairs of rows is that of their quads, by their places among the quads
--     row_room       at each place of a feed by rows through the band, the list has at most its weight and one more
--     block_room     so it has while the band is put block by block
use mathlib.Core.Path.{◌≡◌, refl, ap}
use mathlib.Core.List.{List}
use Prim.Native.Nat.{ℕ, zero, suc, ◌+◌, ◌-◌, ◌*◌, ◌/◌, ◌%◌, ◌^◌, ◌≤◌, ◌<◌}
use native.Mathlib.Nat.{mul-le-mul_right, add-mul, mul_left_comm}
use native.Mathlib.Omega.{arith}
use lib.ListN.{length}
use Rattle.morton.specs.Morton.{column, row}
use Rattle.quadtree.specs.Raster.{Aligned}
use Rattle.quadtree.specs.Quadtree.{quadtree}
use Rattle.bed.specs.Places.{pixel_at, place_of}
use Rattle.bed.specs.declared.Kind.TheVariants.{Rows}
use Rattle.bed.proofs.PlaceLaws.{area_sides, place_of_pixel_at}
use Rattle.scan_stretch.specs.Stretch.{Blank, Over}
use Rattle.scan_stretch.specs.Weight.{total}
use Rattle.scan_stretch.proofs.Totals.{total_add, total_same}
use Rattle.scan_weigh.specs.Weighed.{quad_from, pair_from, rows_from}
use Rattle.scan_block.specs.Blocks.{mixed, byte_at}
use Rattle.scan_block.proofs.Putting.{quad_place}
use Rattle.scan_ways.specs.Bands.{first, many, band_weight, BandFits}
use Rattle.scan_ways.proofs.Geometry.{Block, rows_of}
use Rattle.scan_ways.proofs.Parts.{Part}
use Rattle.scan_ways.proofs.Ways.{weight_at, row_length}
use Rattle.scan_ways.proofs.BlockWays.{block_length}

-- the corner of the quad number j of a row of quads
module _ (m r j : ℕ) (lj : j < 2 ^ m) (lr : r * 2 ^ m + j < 4 ^ m) where
  abbrev x : ℕ
  x = pixel_at Rows m (r * 2 ^ m + j)

  at_x : row m x * 2 ^ m + column m x ≡ r * 2 ^ m + j
  unfolding place_of
  at_x = place_of_pixel_at Rows m (r * 2 ^ m + j) lr

  row_x : row m x ≡ r
  row_x = let w = rows_of m r 1 x (omega (arith, place_of_pixel_at Rows m (r * 2 ^ m + j) lr)) (omega (arith, place_of_pixel_at Rows m (r * 2 ^ m + j) lr)) in omega (arith, w)

  column_x : column m x ≡ j
  column_x = omega (arith, at_x, ap (λ (y : ℕ). y * 2 ^ m) row_x)

  corner_place : place_of Rows (suc m) (x * 4) ≡ 2 * r * 2 ^ suc m + 2 * j
  unfolding place_of column row
  corner_place =
      let a : x * 4 / 4 ≡ x = omega arith in
      let b : x * 4 / 2 % 2 ≡ 0 = omega arith in
      let c : x * 4 % 2 ≡ 0 = omega arith in
      let d : 2 * r + 0 ≡ 2 * r = omega arith in
      rw (a, b, c, row_x, column_x, d) (omega arith)

module _ (m d : ℕ) (bytes : List ℕ) (r : ℕ) (ld : d ≤ 2 * r * 2 ^ suc m) where
  abbrev w : ℕ
  w = 2 ^ suc m

  abbrev g : ℕ → ℕ
  g = byte_at bytes d

  abbrev at : ℕ
  at = 2 * r * w - d

  -- a byte by its place
  quad_weight : (h j : ℕ) → j < 2 ^ m → (r + h) * 2 ^ m + j < 4 ^ m → quad_from bytes w (at + h * (2 * w) + 2 * j) ≡ weight_at m g ((r + h) * 2 ^ m + j)
  quad_weight h j lj lh =
      let c = pixel_at Rows m ((r + h) * 2 ^ m + j) * 4 in
      let al : Aligned 1 c = record { times = pixel_at Rows m ((r + h) * 2 ^ m + j); is = refl } in
      let p0 = corner_place m (r + h) j lj lh in
      let e : 2 * (r + h) * w ≡ 2 * r * w + h * (2 * w) = omega (arith, add-mul (2 * r) (2 * h) w, mul_left_comm h 2 w) in
      let z0 : place_of Rows (suc m) c - d ≡ at + h * (2 * w) + 2 * j = omega (arith, p0, e) in
      let z1 : place_of Rows (suc m) (c + 1) - d ≡ at + h * (2 * w) + 2 * j + 1 = omega (arith, p0, e, quad_place (suc m) c 1 (omega arith) al (omega arith)) in
      let z2 : place_of Rows (suc m) (c + 2) - d ≡ at + h * (2 * w) + 2 * j + w = omega (arith, p0, e, quad_place (suc m) c 2 (omega arith) al (omega arith)) in
      let z3 : place_of Rows (suc m) (c + 3) - d ≡ at + h * (2 * w) + 2 * j + w + 1 = omega (arith, p0, e, quad_place (suc m) c 3 (omega arith) al (omega arith)) in
      rw (z0, z1, z2, z3)

  pair_quads : (h : ℕ) → (r + h + 1) * 2 ^ m ≤ 4 ^ m → pair_from bytes w (2 ^ m) (at + h * (2 * w)) ≡ total (weight_at m g) ((r + h) * 2 ^ m) (2 ^ m)
  pair_quads h room = total_same (λ j. quad_from bytes w (at + h * (2 * w) + 2 * j)) (weight_at m g) 0 ((r + h) * 2 ^ m) (2 ^ m) (λ j l.
      let z : 0 + j ≡ j = omega arith in
      rw z (quad_weight h j l (omega (arith, add-mul (r + h) 1 (2 ^ m)))))

  pub rows_quads : (h : ℕ) → (r + h) * 2 ^ m ≤ 4 ^ m → rows_from bytes w (2 ^ m) at h ≡ total (weight_at m g) (r * 2 ^ m) (h * 2 ^ m)
  unfolding total
  rows_quads zero room = (let z : 0 * 2 ^ m ≡ 0 = omega arith in rw z)
  rows_quads (suc h) room =
      let a : suc h * 2 ^ m ≡ h * 2 ^ m + 2 ^ m = omega arith in
      let b : r * 2 ^ m + h * 2 ^ m ≡ (r + h) * 2 ^ m = omega (arith, add-mul r h (2 ^ m)) in
      let le : r + h + 1 ≤ r + suc h = omega arith in
      let ih = rows_quads h (omega (arith, add-mul (r + h) 1 (2 ^ m), mul-le-mul_right (2 ^ m) le)) in
      let z : 0 + h ≡ h = omega arith in
      let p = pair_quads h (omega (arith, mul-le-mul_right (2 ^ m) le)) in
      rw (a, ← total_add (weight_at m g) (r * 2 ^ m) (h * 2 ^ m) (2 ^ m), b, ih, z) (ap (λ (y : ℕ). total (weight_at m g) (r * 2 ^ m) (h * 2 ^ m) + y) p)

-- the bounds of a band of size k + 1 from the row 2 r on, in a bed of order m + 1
module _ (m d : ℕ) (bytes : List ℕ) (r k : ℕ) (rows : r + 2 ^ k ≤ 2 ^ m) (start : d ≤ 2 * r * 2 ^ suc m) where
  quads_room : r * 2 ^ m + 2 ^ k * 2 ^ m ≤ 4 ^ m
  quads_room = omega (arith, mul-le-mul_right (2 ^ m) rows, add-mul r (2 ^ k) (2 ^ m), area_sides m)

  weight_quads : band_weight (suc m) d bytes (2 * r) (suc k) ≡ total (weight_at m (byte_at bytes d)) (r * 2 ^ m) (2 ^ k * 2 ^ m)
  weight_quads =
      let a : 2 ^ suc m / 2 ≡ 2 ^ m = omega arith in
      let b : 2 ^ suc k / 2 ≡ 2 ^ k = omega arith in
      rw (a, b) (rows_quads m d bytes r start (2 ^ k) (omega (arith, quads_room, add-mul r (2 ^ k) (2 ^ m))))

  row_bound : (f e : ℕ → ℕ) (l : ℕ) → Blank Rows (suc m) (first (suc m) (2 * r)) f → l ≤ many (suc m) (suc k) → Over Rows (suc m) (first (suc m) (2 * r)) l f (byte_at bytes d) e →
      length (quadtree (suc m) e) ≤ length (quadtree (suc m) f) + band_weight (suc m) d bytes (2 * r) (suc k) + 1
  row_bound f e l blank lt o = rw weight_quads (row_length m r (2 ^ k) f (byte_at bytes d) e l blank quads_room (omega (arith, ap (λ (x : ℕ). x * 2 ^ suc m) (let b : 2 ^ suc k ≡ 2 * 2 ^ k = omega arith in b))) o)

  block_bound : (v c : ℕ) (f h : ℕ → ℕ) → Block (suc m) (suc k) (2 * v) (2 * r) c → Part (suc m) (first (suc m) (2 * r)) (many (suc m) (suc k)) (2 * v) f (byte_at bytes d) h →
      Blank Rows (suc m) (first (suc m) (2 * r)) f → (y : ℕ) → y ≤ c + 4 ^ suc k →
      length (quadtree (suc m) (mixed h (λ z. byte_at bytes d (place_of Rows (suc m) z)) c y)) ≤ length (quadtree (suc m) f) + band_weight (suc m) d bytes (2 * r) (suc k) + 1
  block_bound v c f h b w blank y l = rw weight_quads (block_length m k r v c f (byte_at bytes d) h b w blank quads_room y l)

halves : (r t k : ℕ) → r ≡ t * 2 ^ suc k → r ≡ 2 * (t * 2 ^ k)
halves r t k e = let b : 2 ^ suc k ≡ 2 * 2 ^ k = omega arith in omega (arith, ap (λ (x : ℕ). t * x) b, mul_left_comm t 2 (2 ^ k))

-- the same of any band
module _ (d : ℕ) (bytes : List ℕ) where
  abbrev Bounded : ℕ → ℕ → ℕ → (ℕ → ℕ) → (ℕ → ℕ) → Type 0
  Bounded n r k f e = length (quadtree n e) ≤ length (quadtree n f) + band_weight n d bytes r k + 1

  row_from : (m r k a : ℕ) → r ≡ 2 * a → r + 2 ^ suc k ≤ 2 ^ suc m → d ≤ first (suc m) r → (f e : ℕ → ℕ) (l : ℕ) → Blank Rows (suc m) (first (suc m) r) f → l ≤ many (suc m) (suc k) →
      Over Rows (suc m) (first (suc m) r) l f (byte_at bytes d) e → Bounded (suc m) r (suc k) f e
  row_from m r k a er rows start f e l blank lt o = rw er (row_bound m d bytes a k (omega arith) (rw er at start) f e l (rw er at blank) lt (rw er at o))

  block_from : (m r k a v x c : ℕ) → r ≡ 2 * a → x ≡ 2 * v → r + 2 ^ suc k ≤ 2 ^ suc m → d ≤ first (suc m) r → (f h : ℕ → ℕ) → Block (suc m) (suc k) x r c →
      Part (suc m) (first (suc m) r) (many (suc m) (suc k)) x f (byte_at bytes d) h → Blank Rows (suc m) (first (suc m) r) f → (y : ℕ) → y ≤ c + 4 ^ suc k →
      Bounded (suc m) r (suc k) f (mixed h (λ z. byte_at bytes d (place_of Rows (suc m) z)) c y)
  block_from m r k a v x c er ex rows start f h b w blank y l = rw er (block_bound m d bytes a k (omega arith) (rw er at start) v c f h (rw (er, ex) at b) (rw (er, ex) at w) (rw er at blank) y l)

  pub row_room : (n r k : ℕ) → BandFits n d bytes r k → (f e : ℕ → ℕ) (l : ℕ) → Blank Rows n (first n r) f → l ≤ many n k → Over Rows n (first n r) l f (byte_at bytes d) e → Bounded n r k f e
  row_room zero r k band = absurd (omega (arith, band.some, band.size))
  row_room (suc m) r zero band = absurd (omega (arith, band.some))
  row_room (suc m) r (suc k) band = row_from m r k (band.times * 2 ^ k) (halves r band.times k band.row) band.rows band.start

  pub block_room : (n r k x t c : ℕ) → BandFits n d bytes r k → x ≡ t * 2 ^ k → (f h : ℕ → ℕ) → Block n k x r c → Part n (first n r) (many n k) x f (byte_at bytes d) h → Blank Rows n (first n r) f → (y : ℕ) → y ≤ c + 4 ^ k →
      Bounded n r k f (mixed h (λ z. byte_at bytes d (place_of Rows n z)) c y)
  block_room zero r k x t c band ex = absurd (omega (arith, band.some, band.size))
  block_room (suc m) r zero x t c band ex = absurd (omega (arith, band.some))
  block_room (suc m) r (suc k) x t c band ex = block_from m r k (band.times * 2 ^ k) (t * 2 ^ k) x c (halves r band.times k band.row) (halves x t k ex) band.rows band.start
