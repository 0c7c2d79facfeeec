-- The worked lines, computed.
use mathlib.Core.Path.{refl}
use Rattle.refusal.specs.Checks.{must, or_else, unless}
use Rattle.quadtree.specs.Raster.{aligned}
use Rattle.bed.specs.Bed.{block_in}
use Rattle.morton.specs.Morton.{morton, column, row}
use Rattle.checks.specs.Asked.{order_check, point_in, point_check, block_check}
use Rattle.points.specs.Points.{extent_of, point_asked, number_of, around_asked, around_of, number_asked, point_of}
use Rattle.points.specs.Worked.{PointLines}

pub point_lines : PointLines
unfolding must or_else unless aligned block_in morton column row order_check point_in point_check block_check extent_of point_asked number_of around_asked around_of number_asked point_of
point_lines = record {
  largest = refl;
  too_large = refl;
  number_2_1 = refl;
  number_5_0 = refl;
  point_6 = refl;
  number_1024 = refl;
  point_16 = refl;
  around_3_1 = refl;
  around_all = refl;
  around_large = refl;
}
