-- Inner: a stretch of places of a scan, and the accounts fed to it, which are a function of the place. Definitions
-- only.
--     laid k n p g len f     the raster f with the accounts of g on the len places from p on, put one after the other
--     Blank k n p f          the place p and those behind it are nobody's
--     Over k n p len f g h   h has g's accounts on the len places from p on, and is f elsewhere
use Rattle.std.specs.Prelude.{◌≡◌, ℕ, zero, suc, ◌+◌, ◌^◌, ◌≤◌, ◌<◌}
use Rattle.quadtree.specs.Raster.{paint}
use Rattle.bed.specs.declared.Kind.{Kind}
use Rattle.bed.specs.Places.{pixel_at, place_of}

unfoldable pub laid : Kind → ℕ → ℕ → (ℕ → ℕ) → ℕ → (ℕ → ℕ) → ℕ → ℕ
laid k n p g zero f = f
laid k n p g (suc l) f = paint (laid k n p g l f) (pixel_at k n (p + l)) (pixel_at k n (p + l) + 1) (g (p + l))

abbrev pub Blank : Kind → ℕ → ℕ → (ℕ → ℕ) → Type 0
Blank k n p f = (z : ℕ) → z < 4 ^ n → p ≤ place_of k n z → f z ≡ 0

pub record Over (k : Kind) (n p len : ℕ) (f g h : ℕ → ℕ) : Type 0 where
  pub inside : (z : ℕ) → z < 4 ^ n → p ≤ place_of k n z → place_of k n z < p + len → h z ≡ g (place_of k n z)
  pub ahead : (z : ℕ) → z < 4 ^ n → place_of k n z < p → h z ≡ f z
  pub behind : (z : ℕ) → z < 4 ^ n → p + len ≤ place_of k n z → h z ≡ f z
