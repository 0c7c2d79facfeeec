-- The place of a pixel as code computes it.
--     place_rows, place_morton   by kind
--     place_fits                 it fits a word
use mathlib.Core.Path.{◌≡◌, ◌∙◌, ap}
use Prim.Native.Nat.{ℕ, ◌+◌, ◌*◌, ◌%◌, ◌^◌, ◌≤◌, ◌<◌}
use native.Mathlib.Omega.{arith}
use Rattle.morton.specs.Morton.{column, row, side_bits}
use Rattle.morton.proofs.MortonLaws.{column_wide, row_wide}
use Rattle.tile.specs.Tile.{highest_order}
use Rattle.quadtree.proofs.Alignment.{area_mono}
use Rattle.bed.specs.declared.Kind.{Kind}
use Rattle.bed.specs.declared.Kind.TheVariants.{Rows, Morton}
use Rattle.bed.specs.Places.{place_of}
use Rattle.bed.proofs.PlaceLaws.{place_of_lt}

module _ (k : Kind) (n z x y : ℕ) (e : k ≡ Rows) (h : n ≤ highest_order) (l : z < 4 ^ n) (ex : x ≡ row side_bits z) (ey : y ≡ column side_bits z) where
  row_is : x ≡ row n z
  row_is = ex ∙ row_wide n side_bits z h l

  column_is : y ≡ column n z
  column_is = ey ∙ column_wide n side_bits z h l

  -- no bit is shifted out
  shifted : x * 2 ^ n % 2 ^ 32 ≡ row n z * 2 ^ n
  unfolding place_of
  shifted =
      let big : 4 ^ n ≤ 4 ^ highest_order = area_mono h in
      let m = ap (λ (r : ℕ). r * 2 ^ n) row_is in
      omega (arith, place_of_lt Rows n z l)

  pub place_rows : x * 2 ^ n % 2 ^ 32 + y ≡ place_of k n z
  unfolding place_of
  place_rows = rw (e, shifted, column_is)

  pub place_fits : x * 2 ^ n % 2 ^ 32 + y < 2 ^ 32
  unfolding place_of
  place_fits =
      let big : 4 ^ n ≤ 4 ^ highest_order = area_mono h in
      omega (arith, place_of_lt Rows n z l, shifted, column_is)

pub place_morton : (k : Kind) (n z : ℕ) → k ≡ Morton → z ≡ place_of k n z
unfolding place_of
place_morton k n z e = rw e
