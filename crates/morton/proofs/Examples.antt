-- Morton numbers of a few pixels, computed.
--     example_2_1, example_5_0                         the pixel in column 2, row 1 has the number 6, the one in column 5, row 0 has 17
--     north_west, north_east, south_west, south_east   the quadrants of a bed of 2 by 2 pixels, in this order
use mathlib.Core.Path.{◌≡◌, refl}
use Rattle.morton.specs.Morton.{morton, column, row, side_bits}

example_2_1 : morton side_bits 2 1 ≡ 6
unfolding morton
example_2_1 = refl

example_5_0 : morton side_bits 5 0 ≡ 17
unfolding morton
example_5_0 = refl

example_2_1_back : (column side_bits 6 ≡ 2) × (row side_bits 6 ≡ 1)
unfolding column row
example_2_1_back = (refl, refl)

example_5_0_back : (column side_bits 17 ≡ 5) × (row side_bits 17 ≡ 0)
unfolding column row
example_5_0_back = (refl, refl)

north_west : morton 1 0 0 ≡ 0
unfolding morton
north_west = refl

north_east : morton 1 1 0 ≡ 1
unfolding morton
north_east = refl

south_west : morton 1 0 1 ≡ 2
unfolding morton
south_west = refl

south_east : morton 1 1 1 ≡ 3
unfolding morton
south_east = refl
