-- Hundredths of a mil and pixels (document 02, request 6). A mil is a thousandth of an inch. A pixel is 400 micrometres
-- wide and an inch is 25,400, so 127 pixels are as wide as 200,000 hundredths of a mil. Definitions only.
--     pixel_at h        the pixel, a column or a row, in which h hundredths of a mil lie
--     smallest_in p     the smallest h that lies in the pixel p: p * 200,000 / 127, rounded up
--     Smallest p h     what the smallest is: h lies in the pixel p, and whatever lies there is not below h
use Rattle.std.specs.Prelude.{◌≡◌, ℕ, ◌+◌, ◌*◌, ◌/◌, ◌≤◌}

abbrev pub pixel_at : ℕ → ℕ
pixel_at h = h * 127 / 200000

abbrev pub smallest_in : ℕ → ℕ
smallest_in p = (p * 200000 + 126) / 127

pub record Smallest (p h : ℕ) : Type 0 where
  pub lies : pixel_at h ≡ p
  pub least : (i : ℕ) → pixel_at i ≡ p → h ≤ i
