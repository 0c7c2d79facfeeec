-- Worked lines of the calls that are handed no map, as one table: document 01's two Morton numbers, and the edges. All
-- are computed by the checker (proofs/PointsComputed.antt).
use Rattle.std.specs.Prelude.{◌≡◌}
use Rattle.refusal.specs.Refusal.{accepted, order_too_large, point_outside, block_invalid}
use Rattle.points.specs.Points.{extent_of, number_of, around_of, point_of}

pub record PointLines : Type 0 where
  -- the largest bed, and one too large
  pub largest : extent_of 10 ≡ record { number = accepted; side = 1024; pixels = 1048576 }
  pub too_large : extent_of 11 ≡ record { number = order_too_large; side = 0; pixels = 0 }
  -- pixel (2, 1) has 6, pixel (5, 0) has 17
  pub number_2_1 : number_of 2 2 1 ≡ record { number = accepted; morton = 6 }
  pub number_5_0 : number_of 10 5 0 ≡ record { number = accepted; morton = 17 }
  pub point_6 : point_of 2 6 ≡ record { number = accepted; column = 2; row = 1 }
  -- column 1024 is not column 0, and the number 16 is not on a bed of order 2
  pub number_1024 : number_of 10 1024 0 ≡ record { number = point_outside; morton = 0 }
  pub point_16 : point_of 2 16 ≡ record { number = block_invalid; column = 0; row = 0 }
  -- the quadrant with (3, 1), the whole bed around it, and a block larger than the bed
  pub around_3_1 : around_of 2 3 1 1 ≡ record { number = accepted; corner = 4; size = 1 }
  pub around_all : around_of 2 3 1 2 ≡ record { number = accepted; corner = 0; size = 2 }
  pub around_large : around_of 2 3 1 3 ≡ record { number = block_invalid; corner = 0; size = 0 }
