-- Check 22 by rows, word by word.
--     stands          the place of the next pixel, as the code spreads it
--     Compared        what comparing a pixel with it, row first, tells of the places; `compared`, that it does
--     row_first       a comparison, row first, by how its tests end
--     rows_on         one word more
--     rows_end        no word is left
use mathlib.Core.Path.{◌≡◌, refl, ap, sym, ◌∙◌}
use mathlib.Core.Bool.{Bool, true, false, ◌&&◌, ◌||◌}
use mathlib.Core.List.{List}
use Prim.Native.Nat.{ℕ, ◌+◌, ◌-◌, ◌*◌, ◌/◌, ◌%◌, ◌^◌, ◌≤◌, ◌<◌}
use native.Mathlib.Nat.{mul-le-mul_right, mod-lt, div-add-mod'}
use native.Mathlib.Omega.{arith}
use borrow.Author.Tests.{le-leb, lt-leb}
use lib.Dec.{leb}
use lib.ListN.{length, drop, get_or}
use lib.Pow.{pow_pos, pow_mono}
use Rattle.morton.specs.Morton.{morton, column, row, side_bits}
use Rattle.morton.proofs.MortonLaws.{morton_lt, column_lt, row_lt, column_wide, row_wide}
use Rattle.morton.proofs.SpreadLaws.{spread_rises, spread_lt, spread_same}
use Rattle.tile.specs.Tile.{tile_of, stop, highest_order}
use Rattle.tile.specs.Slots.{tiles}
use Rattle.quadtree.specs.Valid.{Valid}
use Rattle.quadtree.proofs.Alignment.{cmp, below, same, above}
use Rattle.quadtree.proofs.Chains.{quadrant_stop}
use Rattle.bed.specs.declared.Kind.TheVariants.{Rows}
use Rattle.bed.specs.Places.{scan_of, place_of}
use Rattle.bed.proofs.PlaceLaws.{row_of_place_lt}
use Rattle.bed.proofs.ScannedBlocks.{unscanned_last}
use Rattle.scan_check.specs.Opening.{covers_unscanned}
use Rattle.scan_check.specs.Standing.{Stands}
use Rattle.scan_check.proofs.Unscanned.{word_quadrant, opened, covers_none}

-- a side of a bed is at most the longest
side_upto : (n : ℕ) → n ≤ highest_order → 2 ^ n ≤ 2 ^ side_bits
side_upto n h = pow_mono h

pub stands : (n s x y b : ℕ) → n ≤ highest_order → s < 4 ^ n → b ≡ 2 ^ n → x ≡ morton side_bits (s / 2 ^ n) 0 → y ≡ morton side_bits (s % b) 0 → Stands n s (x * 2 % 2 ^ 32) y
stands n s x y b h l eb ex ey = record {
  order = h;
  unfinished = l;
  down = omega (arith, ex, morton_lt side_bits (s / 2 ^ n) 0);
  across = ey ∙ ap (λ (b : ℕ). morton side_bits (s % b) 0) eb;
}

-- d and a are where the scan stands, x and y the same of a pixel, and p its place
pub record Compared (s d a x y p : ℕ) : Type 0 where
  pub further : d < x → s ≤ p
  pub level : d ≡ x → a ≤ y → s ≤ p
  pub nearer : x < d → p < s
  pub west : d ≡ x → y < a → p < s

-- a comparison, row first, of two numbers of two digits
pub row_first : (a b c : Bool) (s p : ℕ) → (a ≡ true → s ≤ p) → (b ≡ true → c ≡ true → s ≤ p) → (a ≡ false → b ≡ false → p < s) → (b ≡ true → c ≡ false → p < s) → (a || (b && c)) ≡ leb s p
row_first true b c s p f g h k = sym (le-leb s p (f refl))
row_first false true true s p f g h k = sym (le-leb s p (g refl refl))
row_first false true false s p f g h k = sym (lt-leb s p (k refl refl))
row_first false false c s p f g h k = sym (lt-leb s p (h refl refl))

module _ (n s d a z x y : ℕ) (st : Stands n s d a) (l : z < 4 ^ n) (ex : x ≡ 2 * morton side_bits (row side_bits z) 0) (ey : y ≡ morton side_bits (column side_bits z) 0) where
  abbrev m : ℕ
  m = 2 ^ n

  apart : s / m * m + s % m ≡ s
  apart = div-add-mod' s m

  in_row : s % m < m
  in_row = mod-lt s (pow_pos n)

  high : s / m < 2 ^ side_bits
  high = omega (arith, row_of_place_lt n s st.unfinished, side_upto n st.order)

  down : x ≡ 2 * morton side_bits (row n z) 0
  down = ex ∙ ap (λ (r : ℕ). 2 * morton side_bits r 0) (row_wide n side_bits z st.order l)

  across : y ≡ morton side_bits (column n z) 0
  across = ey ∙ ap (λ (r : ℕ). morton side_bits r 0) (column_wide n side_bits z st.order l)

  row_small : row n z < 2 ^ side_bits
  row_small = omega (arith, row_lt n z, side_upto n st.order)

  column_small : column n z < 2 ^ side_bits
  column_small = omega (arith, column_lt n z, side_upto n st.order)

  east_small : s % m < 2 ^ side_bits
  east_small = omega (arith, in_row, side_upto n st.order)

  pub compared : Compared s d a x y (place_of Rows n z)
  unfolding place_of
  compared = record {
    further = λ h.
        let g = spread_lt side_bits (s / m) (row n z) high row_small (omega (arith, down, st.down)) in
        omega (arith, mul-le-mul_right m g, apart, in_row);
    level = λ e h.
        let g = spread_same side_bits (s / m) (row n z) high row_small (omega (arith, down, st.down)) in
        omega (arith, ap (λ (r : ℕ). r * m) g, apart, columns h);
    nearer = λ h.
        let g = spread_lt side_bits (row n z) (s / m) row_small high (omega (arith, down, st.down)) in
        omega (arith, mul-le-mul_right m g, apart, column_lt n z);
    west = λ e h.
        let g = spread_same side_bits (s / m) (row n z) high row_small (omega (arith, down, st.down)) in
        let k = spread_lt side_bits (column n z) (s % m) column_small east_small (omega (arith, across, st.across)) in
        omega (arith, ap (λ (r : ℕ). r * m) g, apart);
  }
    where
      columns : a ≤ y → s % m ≤ column n z
      columns h = elim (cmp (s % m) (column n z)) [
        | below g ↦ omega arith
        | same g ↦ omega arith
        | above g ↦ absurd (omega (arith, spread_rises side_bits (column n z) (s % m) east_small g, across, st.across))
      ]

or_assoc : (a b c : Bool) → (a || (b || c)) ≡ ((a || b) || c)
or_assoc true b c = refl
or_assoc false b c = refl

or_none : (a : Bool) → (a || false) ≡ a
or_none true = refl
or_none false = refl

-- the words looked at are in `bad`, those from i on decide
module _ (n s t : ℕ) (ws : List ℕ) (bad : Bool) (i : ℕ) where
  abbrev pub left : ℕ → Bool
  left j = covers_unscanned (scan_of Rows n s t) (tiles (drop j ws))

  pub rows_on : Valid n (tiles ws) → i < length ws → (b : Bool) → b ≡ leb s (place_of Rows n (stop (tile_of (get_or ws i 0)) - 1)) → (bad || left i) ≡ ((bad || b) || left (i + 1))
  rows_on v h b e =
      let q = word_quadrant ws i h v in
      let u = e ∙ unscanned_last Rows n s (tile_of (get_or ws i 0)).corner (tile_of (get_or ws i 0)).size q.aligned (quadrant_stop q) in
      ap (λ (x : Bool). bad || x) (opened ws i h (scan_of Rows n s t) ∙ ap (λ (x : Bool). x || left (i + 1)) (sym u)) ∙ or_assoc bad b (left (i + 1))

  pub rows_end : i ≡ length ws → (bad || left i) ≡ bad
  rows_end e = ap (λ (x : Bool). bad || x) (covers_none (scan_of Rows n s t) ws i e) ∙ or_none bad
