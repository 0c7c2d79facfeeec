-- Inner: accounts of a feed that can be put at once, since none of them can be refused. Definitions only.
--     BandTaken n d bytes p m r k     the band of size k from the row r on starts at the place p, its bytes are there,
--                                     the first of all being that of the place d, and m free slots suffice for its
--                                     weight and one
--     StretchTaken n bytes p k m l    in Morton order the l bytes from number k on, whole quads, can be put from the
--                                     pixel p on with m free slots
use Rattle.std.specs.Prelude.{◌≡◌, List, ℕ, ◌+◌, ◌^◌, ◌≤◌}
use Rattle.quadtree.specs.Raster.{Aligned}
use Rattle.scan_block.specs.Blocks.{Given}
use Rattle.scan_ways.specs.Bands.{first, band_weight, BandFits}

pub record BandTaken (n d : ℕ) (bytes : List ℕ) (p m r k : ℕ) : Type 0 where
  pub fits : BandFits n d bytes r k
  pub place : p ≡ first n r
  pub slots : band_weight n d bytes r k + 1 ≤ m

pub record StretchTaken (n : ℕ) (bytes : List ℕ) (p k m l : ℕ) : Type 0 where
  pub slots : l ≤ m
  pub aligned : Aligned 1 p
  pub quads : Aligned 1 l
  pub places : p + l ≤ 4 ^ n
  pub given : Given bytes k l
