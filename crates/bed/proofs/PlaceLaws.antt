-- Laws of the places of a scan, for both kinds and every order.
--     area_sides                           a bed has 2 ^ n rows of 2 ^ n pixels
--     pixel_at_lt, place_of_lt               pixels and places of a bed stay in it
--     row_of_place_lt                            the row of a place is one of them
--     place_of_pixel_at, pixel_at_place_of     each is the other's inverse
--     place_of_last                         the last pixel of a block comes last of them in the scan
--     Twos j x                             x is a multiple of 2 ^ j
--     column_twos, row_twos                where a block of size j ends with z, column and row of z, counted from 1, are multiples of 2 ^ j
--     rows_length, rows_at                 how many accounts a raster by rows has, and which
--     rows_unique                          bytes with each pixel's account at its place are the raster by rows
--     rows_cong                            it goes by the raster's accounts on the bed
use mathlib.Core.Path.{◌≡◌, refl, ap, ap₂, sym, ◌∙◌}
use mathlib.Core.List.{List}
use Prim.Native.Nat.{ℕ, zero, suc, ◌+◌, ◌-◌, ◌*◌, ◌/◌, ◌%◌, ◌^◌, ◌≤◌, ◌<◌}
use native.Mathlib.Nat.{mul-le-mul_right, mod-lt, div-add-mod', div-lt_iff_lt-mul}
use native.Mathlib.Omega.{arith}
use lib.Pow.{pow_pos, pow-add}
use lib.ListN.{length, get_or}
use lib.Seq.{ext_get_or}
use Rattle.basics.proofs.ChoiceLaws.{tabulate_length, tabulate_at, tabulate_cong}
use Rattle.morton.specs.Morton.{morton, column, row}
use Rattle.morton.proofs.MortonLaws.{morton_lt, column_lt, row_lt, column_morton, row_morton, morton_column_row, morton_unique}
use Rattle.morton.proofs.Squares.{block_square, column_corner, row_corner}
use Rattle.quadtree.specs.Raster.{Aligned}
use Rattle.quadtree.proofs.Alignment.{cmp, below, same, above, size_le}
use Rattle.bed.specs.declared.Kind.{Kind}
use Rattle.bed.specs.declared.Kind.TheVariants.{Rows, Morton}
use Rattle.bed.specs.Places.{place_of, pixel_at, rows}
use Rattle.bed.proofs.LastPixel.{column_last, row_last}

twice : (n : ℕ) → 2 ^ (n + n) ≡ 4 ^ n
twice zero = refl
twice (suc n) = let e : suc n + suc n ≡ suc (suc (n + n)) = omega arith in rw e (omega (arith, twice n))

pub area_sides : (n : ℕ) → 2 ^ n * 2 ^ n ≡ 4 ^ n
area_sides n = sym (pow-add 2 n n) ∙ twice n

pub pixel_at_lt : (k : Kind) (n i : ℕ) → i < 4 ^ n → pixel_at k n i < 4 ^ n
unfolding pixel_at
pixel_at_lt Rows n i h = morton_lt n _ _
pixel_at_lt Morton n i h = h

-- the row of a place
pub row_of_place_lt : (n i : ℕ) → i < 4 ^ n → i / 2 ^ n < 2 ^ n
row_of_place_lt n i h = (div-lt_iff_lt-mul (pow_pos n)).1 (omega (arith, area_sides n))

pub place_of_pixel_at : (k : Kind) (n i : ℕ) → i < 4 ^ n → place_of k n (pixel_at k n i) ≡ i
unfolding place_of pixel_at
place_of_pixel_at Rows n i h =
    rw (column_morton n (i % 2 ^ n) (i / 2 ^ n) (mod-lt i (pow_pos n)), row_morton n (i % 2 ^ n) (i / 2 ^ n) (row_of_place_lt n i h)) (div-add-mod' i (2 ^ n))
place_of_pixel_at Morton n i h = refl

-- a place is taken apart into its row and its column
apart : (s c r d q : ℕ) → c < s → d < s → r * s + c ≡ q * s + d → (c ≡ d) × (r ≡ q)
apart s c r d q h g e = elim (cmp r q) [
  | below b ↦ absurd (omega (arith, mul-le-mul_right s b))
  | same f ↦ (omega (arith, ap (λ (x : ℕ). x * s) f), f)
  | above b ↦ absurd (omega (arith, mul-le-mul_right s b))
]

pub pixel_at_place_of : (k : Kind) (n z : ℕ) → z < 4 ^ n → pixel_at k n (place_of k n z) ≡ z
unfolding place_of pixel_at
pixel_at_place_of Rows n z h =
    let i = row n z * 2 ^ n + column n z in
    let e = apart (2 ^ n) (i % 2 ^ n) (i / 2 ^ n) (column n z) (row n z) (mod-lt i (pow_pos n)) (column_lt n z) (div-add-mod' i (2 ^ n)) in
    ap₂ (morton n) e.0 e.1 ∙ morton_column_row n z h
pixel_at_place_of Morton n z h = refl

pub place_of_lt : (k : Kind) (n z : ℕ) → z < 4 ^ n → place_of k n z < 4 ^ n
unfolding place_of
place_of_lt Rows n z h = omega (arith, mul-le-mul_right (2 ^ n) (row_lt n z), column_lt n z, area_sides n)
place_of_lt Morton n z h = h

-- of two pixels, the one that lies neither west nor north of the other comes later
rows_later : (n y z : ℕ) → y < 4 ^ n → z < 4 ^ n → z < y → column n z ≤ column n y → row n z ≤ row n y → place_of Rows n z < place_of Rows n y
unfolding place_of
rows_later n y z g h l p q = elim (cmp (row n z) (row n y)) [
  | below r ↦ omega (arith, mul-le-mul_right (2 ^ n) r, column_lt n z)
  | same r ↦ elim (cmp (column n z) (column n y)) [
    | below d ↦ omega (arith, ap (λ (x : ℕ). x * 2 ^ n) r)
    | same d ↦ absurd (omega (arith, morton_unique n z y h g d r))
    | above d ↦ absurd (omega arith)
  ]
  | above r ↦ absurd (omega arith)
]

pub place_of_last : (kind : Kind) (n : ℕ) {k c : ℕ} (z : ℕ) → Aligned k c → c ≤ z → z + 1 < c + 4 ^ k → c + 4 ^ k ≤ 4 ^ n → place_of kind n z < place_of kind n (c + 4 ^ k - 1)
unfolding place_of
place_of_last Rows n {k} {c} z m l h g =
    let s : k ≤ n = size_le k n (omega arith) in
    let b = rw (← m.is) at (block_square n k m.times z s (omega (arith, m.is)) (omega (arith, m.is))) in
    rows_later n (c + 4 ^ k - 1) z (omega arith) (omega arith) (omega arith)
    (omega (arith, b.east, rw (← m.is) at (column_last n k m.times s)))
    (omega (arith, b.south, rw (← m.is) at (row_last n k m.times s)))
place_of_last Morton n {k} {c} z m l h g = omega arith

pub record Twos (j x : ℕ) : Type 0 where
  pub times : ℕ
  pub is : x ≡ times * 2 ^ j

-- the block of size j that ends with z
record Ends (n j z : ℕ) : Type 0 where
  times : ℕ
  is : times * 4 ^ j + 4 ^ j - 1 ≡ z
  fits : j ≤ n

ends : (n j z : ℕ) → z < 4 ^ n → Aligned j (z + 1) → Ends n j z
ends n j z h m = go m.times m.is
  where
    go : (t : ℕ) → z + 1 ≡ t * 4 ^ j → Ends n j z
    go zero e = absurd (omega arith)
    go (suc q) e = record { times = q; is = omega arith; fits = size_le j n (omega arith) }

module _ (n j z : ℕ) (h : z < 4 ^ n) (m : Aligned j (z + 1)) where
  pub column_twos : Twos j (column n z + 1)
  column_twos =
      let e = ends n j z h m in
      record { times = column (n - j) e.times + 1; is = omega (arith, rw e.is at (column_last n j e.times e.fits), column_corner n j e.times e.fits) }

  pub row_twos : Twos j (row n z + 1)
  row_twos =
      let e = ends n j z h m in
      record { times = row (n - j) e.times + 1; is = omega (arith, rw e.is at (row_last n j e.times e.fits), row_corner n j e.times e.fits) }

pub rows_length : (n : ℕ) (f : ℕ → ℕ) → length (rows n f) ≡ 4 ^ n
unfolding rows
rows_length n f = tabulate_length (λ i. f (pixel_at Rows n i)) 0 (4 ^ n)

pub rows_at : (n : ℕ) (f : ℕ → ℕ) (i : ℕ) → i < 4 ^ n → get_or (rows n f) i 0 ≡ f (pixel_at Rows n i)
unfolding rows
rows_at n f i h = tabulate_at (λ j. f (pixel_at Rows n j)) 0 (4 ^ n) i h ∙ ap (λ (j : ℕ). f (pixel_at Rows n j)) (omega arith)

pub rows_unique : (n : ℕ) (f : ℕ → ℕ) (bytes : List ℕ) → length bytes ≡ 4 ^ n → ((z : ℕ) → z < 4 ^ n → get_or bytes (place_of Rows n z) 0 ≡ f z) → bytes ≡ rows n f
rows_unique n f bytes l e =
    ext_get_or 0 bytes (rows n f) (l ∙ sym (rows_length n f))
    (λ i h.
    let b : i < 4 ^ n = omega arith in
    ap (λ (p : ℕ). get_or bytes p 0) (sym (place_of_pixel_at Rows n i b)) ∙ e (pixel_at Rows n i) (pixel_at_lt Rows n i b) ∙ sym (rows_at n f i b))

pub rows_cong : (n : ℕ) (f g : ℕ → ℕ) → ((z : ℕ) → z < 4 ^ n → f z ≡ g z) → rows n f ≡ rows n g
unfolding rows
rows_cong n f g e = tabulate_cong (λ i. f (pixel_at Rows n i)) (λ i. g (pixel_at Rows n i)) 0 (4 ^ n) (λ i l h. e (pixel_at Rows n i) (pixel_at_lt Rows n i (omega arith)))
