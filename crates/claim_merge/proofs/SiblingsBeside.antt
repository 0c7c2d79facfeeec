-- The comparison of the tiles on both sides of a tile with its siblings. The tile is quadrant p of its parent, and has so many pixels.
--     Rooms t p area     the numbers of the siblings on both sides
--     rooms              they fit
--     part_siblings      the words of a part are compared: so are the tiles there
--     beside_few, -end, -ahead, -behind    what each turn of the comparison tells
use mathlib.Core.Path.{◌≡◌}
use mathlib.Core.Bool.{Bool, true, false}
use mathlib.Core.List.{List, map}
use Prim.Native.Nat.{ℕ, ◌+◌, ◌-◌, ◌*◌, ◌^◌, ◌≤◌, ◌<◌}
use native.Mathlib.Omega.{arith}
use native.Mathlib.Nat.{mul-le-mul_right}
use lib.ListN.{take, length, drop, length-map, length-drop}
use lib.Seq.{length-take-le}
use Rattle.std.specs.List.{take-map, drop-map}
use Rattle.basics.proofs.Tests.{Test, fails, test_map, told_true, told_false}
use Rattle.tile.specs.declared.Tile.{Tile}
use Rattle.tile.specs.Tile.{tile_of, highest_order}
use Rattle.quadtree.proofs.Alignment.{area_mono}
use Rattle.quadtree.specs.Tiling.{equal_tiles}
use Rattle.claim_split.proofs.Place.{place}
use Rattle.claim_merge.specs.Standing.{Block, Beside, quadrant_of}

pub record Rooms (t : Tile) (p area : ℕ) : Type 0 where
  pub four : p ≤ 3
  pub less : p * area ≤ t.corner
  pub small : t.size ≤ highest_order
  pub fits : t.corner + area < 2 ^ 32
  pub ahead : t.corner - p * area + p * 4 ^ t.size < 2 ^ 32
  pub behind : t.corner + area + (3 - p) * 4 ^ t.size < 2 ^ 32

pub rooms : (t : Tile) (p area : ℕ) → p ≡ quadrant_of t.corner t.size → area ≡ 4 ^ t.size → Block t.corner t.size → Rooms t p area
rooms t p area pe ae b =
    let h = place t.size t.corner b.aligned in
    let l : 4 ^ t.size ≤ 4 ^ highest_order = area_mono b.size in
    let m : (3 - quadrant_of t.corner t.size) * 4 ^ t.size ≤ 3 * 4 ^ t.size = mul-le-mul_right (4 ^ t.size) (omega arith) in
    rw (ae, pe) (record { four = h.four; less = omega (arith, h.from); small = b.size; fits = omega (arith, b.room); ahead = omega (arith, h.from, b.room); behind = omega (arith, b.room) })

-- m siblings from the corner x on stand at an index
abbrev pub SiblingsAt : List ℕ → ℕ → ℕ → ℕ → ℕ → ℕ → Type 0
SiblingsAt s k a at m x = take m (drop at (map tile_of s)) ≡ equal_tiles k a m x

-- n words from an index on are compared
abbrev pub PartEqual : List ℕ → ℕ → ℕ → ℕ → ℕ → ℕ → Type 0
PartEqual s k a at n x = map tile_of (take n (drop at s)) ≡ equal_tiles k a (length (take n (drop at s))) x

part_siblings : {r : Bool} (s : List ℕ) (k a at n m x y : ℕ) → n ≡ m → x ≡ y → at + m ≤ length s → Test (PartEqual s k a at n x) r → Test (SiblingsAt s k a at m y) r
part_siblings s k a at n m x y e f h t =
    let l : length (take m (drop at s)) ≡ m = length-take-le m (drop at s) (omega (arith, length-drop at s)) in
    let q : map tile_of (take m (drop at s)) ≡ take m (drop at (map tile_of s)) = rw (drop-map tile_of at s, take-map tile_of m (drop at s)) in
    (rw (e, f, l, q) at t)

module _ (s : List ℕ) (lo hi : ℕ) (t : Tile) (p area : ℕ) (pe : p ≡ quadrant_of t.corner t.size) (ae : area ≡ 4 ^ t.size) where
  abbrev Here : Type 0
  Here = Beside (map tile_of s) lo hi t.corner t.size t.account

  pub beside_few : lo < p → Test Here false
  beside_few h = fails (λ j. omega (arith, j.left))

  pub beside_end : length s - hi < 3 - p → Test Here false
  beside_end h = fails (λ j. omega (arith, j.right, length-map s tile_of))

  module _ (l : p ≤ lo) (h : lo ≤ length s) where
    ahead : {r : Bool} → Test (PartEqual s t.size t.account (lo - p) (lo - (lo - p)) (t.corner - p * area)) r → Test (SiblingsAt s t.size t.account (lo - p) p (t.corner - p * 4 ^ t.size)) r
    ahead u = part_siblings s t.size t.account (lo - p) (lo - (lo - p)) p _ _ (omega arith) (rw ae) (omega arith) u

    pub beside_ahead : {r : Bool} → Test (PartEqual s t.size t.account (lo - p) (lo - (lo - p)) (t.corner - p * area)) r → r ≡ false → Test Here false
    beside_ahead u e = fails (λ j. told_false (rw pe at (ahead u)) e j.ahead)

    pub beside_behind : hi ≤ length s → 3 - p ≤ length s - hi → {q r : Bool} → Test (PartEqual s t.size t.account (lo - p) (lo - (lo - p)) (t.corner - p * area)) q → q ≡ true →
        Test (PartEqual s t.size t.account hi (hi + (3 - p) - hi) (t.corner + area)) r → Test Here r
    beside_behind f g v e u = test_map
        (λ x. record { left = rw pe at l; right = rw (length-map s tile_of) (rw pe at g); ahead = told_true (rw pe at (ahead v)) e; behind = rw pe at x })
        (λ j. rw pe j.behind)
        (part_siblings s t.size t.account hi (hi + (3 - p) - hi) (3 - p) _ (t.corner + 4 ^ t.size) (omega arith) (rw ae) (omega arith) u)
