-- The plain bed's feed of a stretch of accounts, none above the highest, where slots suffice at each of them.
--     Taken         what is asked of such a stretch
--     fed_stretch   all of it is taken, none is refused, and the raster that it leaves is `laid`
use mathlib.Core.Path.{◌≡◌, ◌∙◌}
use mathlib.Core.List.{List, ◌∷◌}
use Prim.Native.Nat.{ℕ, zero, suc, ◌+◌, ◌^◌, ◌≤◌, ◌<◌}
use native.Mathlib.Nat.{add-zero}
use native.Mathlib.Omega.{arith}
use lib.ListN.{length, drop, get_or}
use lib.Seq.{drop-cons}
use Rattle.basics.proofs.Tests.{test_leb, test_eqb, test_not}
use Rattle.refusal.specs.Refusal.{accepted}
use Rattle.refusal.proofs.CheckLaws.{must_on, unless_on}
use Rattle.tile.specs.Tile.{highest_account}
use Rattle.quadtree.specs.Quadtree.{quadtree}
use Rattle.bed.specs.declared.Kind.{Kind}
use Rattle.bed.specs.Bed.{Bed, bed_of, put_pixel, pixel_check, feed_pixels}
use Rattle.scan_stretch.specs.Stretch.{laid}

-- one account that is accepted
module _ (m : ℕ) (b : Bed) (a : ℕ) (going : b.scanned ≡ 4 ^ b.order → ⊥) (low : a ≤ highest_account) (room : length (quadtree b.order (put_pixel b a).account) ≤ m) where
  check_accepted : pixel_check m b a ≡ accepted
  unfolding pixel_check
  check_accepted =
      must_on _ _ (test_not (test_eqb b.scanned (4 ^ b.order))) going ∙ must_on _ _ (test_leb a highest_account) low
      ∙ must_on _ _ (test_leb (length (quadtree b.order (put_pixel b a).account)) m) room

  fed_one : (j : ℕ) (bytes : List ℕ) → feed_pixels m j b (a ∷ bytes) ≡ feed_pixels m (j + 1) (put_pixel b a) bytes
  unfolding feed_pixels
  fed_one j bytes = unless_on _ _ _ check_accepted

module _ (m : ℕ) (k : Kind) (n : ℕ) (f g : ℕ → ℕ) (p j : ℕ) (bytes : List ℕ) where
  pub record Taken (len : ℕ) : Type 0 where
    pub places : p + len ≤ 4 ^ n
    pub given : j + len ≤ length bytes
    pub are : (i : ℕ) → i < len → get_or bytes (j + i) 0 ≡ g (p + i)
    pub low : (i : ℕ) → i < len → g (p + i) ≤ highest_account
    pub slots : (l : ℕ) → l ≤ len → length (quadtree n (laid k n p g l f)) ≤ m

  fewer : {l : ℕ} → Taken (suc l) → Taken l
  fewer t = record {
    places = omega (arith, t.places);
    given = omega (arith, t.given);
    are = λ i h. t.are i (omega arith);
    low = λ i h. t.low i (omega arith);
    slots = λ i h. t.slots i (omega arith);
  }

  abbrev left : ℕ → ℕ → ℕ → ℕ → Type 0
  left len x y z = feed_pixels m j (bed_of k n p f) (drop j bytes) ≡ feed_pixels m x (bed_of k n y (laid k n p g len f)) (drop z bytes)

  one_more : (l : ℕ) → Taken (suc l) → left l (j + l) (p + l) (j + l) → left (suc l) (j + l + 1) (p + l + 1) (suc (j + l))
  unfolding laid put_pixel
  one_more l t ih =
      ih ∙ rw (drop-cons bytes (j + l) 0 (omega (arith, t.given)), t.are l (omega arith))
      (fed_one m (bed_of k n (p + l) (laid k n p g l f)) (g (p + l)) (λ e. omega (arith, t.places)) (t.low l (omega arith)) (t.slots (suc l) (omega arith)) (j + l) (drop (suc (j + l)) bytes))

  pub fed_stretch : (len : ℕ) → Taken len → left len (j + len) (p + len) (j + len)
  unfolding laid
  fed_stretch zero t = rw (add-zero j, add-zero p)
  fed_stretch (suc l) t =
      let x : j + l + 1 ≡ j + suc l = omega arith in
      let y : p + l + 1 ≡ p + suc l = omega arith in
      let z : suc (j + l) ≡ j + suc l = omega arith in
      rw (x, y, z) at (one_more l t (fed_stretch l (fewer t)))
