-- The worked lines of the plain bed, computed by the checker.
use mathlib.Core.Path.{refl}
use Rattle.basics.specs.Choice.{if, some, tabulate}
use Rattle.refusal.specs.Checks.{must, unless}
use Rattle.morton.specs.Morton.{morton, column, row}
use Rattle.quadtree.specs.Raster.{aligned, uniform, paint}
use Rattle.quadtree.specs.Quadtree.{single, four, blocks, quadtree}
use Rattle.bed.specs.Places.{place_of, pixel_at, scanned, rows}
use Rattle.bed.specs.Bed.{has_unscanned, put_pixel, pixel_check, feed_pixels, feed_bed, block_in, claim_check, claim_bed_check}
use Rattle.bed.specs.Worked.{PlainLines}

pub plain_lines : PlainLines
unfolding if some tabulate must unless morton column row aligned uniform paint single four blocks quadtree place_of pixel_at scanned rows has_unscanned put_pixel pixel_check feed_pixels feed_bed block_in claim_check claim_bed_check
plain_lines = record {
  M-six-slots = (refl, refl);
  M-scanned = refl;
  M-two-feeds = (refl, refl);
  M-five-slots = (refl, refl);
  M-one-more = (refl, refl);
  sevens_three_slots = (refl, refl);
  sevens_two_slots = (refl, refl);
  empty_bed = (refl, refl);
  fed_63 = (refl, refl);
  fed_64 = (refl, refl);
  claimed_63 = refl;
  claimed_64 = refl;
  M-release = refl;
  M-no-release = refl;
  M-released = refl;
  unscanned_fed = (refl, refl);
  unscanned_claimed = refl;
  rows_scanned = refl;
  rows_unscanned = refl;
  morton_scanned = refl;
  morton_unscanned = refl;
  rows_last = refl;
  rows_but_last = refl;
  release_unscanned = refl;
  unscanned_first = refl;
  block_first = refl;
}
