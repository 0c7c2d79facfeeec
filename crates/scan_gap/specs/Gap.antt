-- Inner: a tile list that lies in lent slots in two parts, with a gap between them. Definitions only.
--     held s i b             the words of the list in the slots s: those before i and those from b on
--     Fits s i b             the two parts lie apart in s
--     Awaits n f z ts        ts is the linear quadtree of the raster f of order n, and the pixel z can be put into it:
--                            of each block that has z,
--                            the last pixel is nobody's
--     Receives n f c k ts    the same of the block of size k at the corner c, which is nobody's: of each block that has
--                            its last pixel, the last pixel is nobody's
--     Outcome, outcome r     both parts after a pixel, and whether the slots were full: there was none for it
--     dotted f z a           the raster f with the account a on the pixel z
--     PlacedOn n m g ts us r r says whether m slots are too few for the linear quadtree of g; if they are not, us is
-- this list, else ts again
--     Placed s t i b z a r   from the slots s to t the pixel z got the account a, or was refused for want of a slot
-- and in between:
--     Pushed s t i b x r     what the tile x leaves of the first i words, where the other part starts at b
--     Low s i z, High s b z  the last tile of the first part starts ahead of z; the first tile of the other part does
--                            not
--     Moved s t i b z g      the gap moved to the pixel z, and the same words are held
use Rattle.std.specs.Prelude.{◌≡◌, Bool, true, false, Result, Ok, Err, List, [], ◌∷◌, ◌++◌, ℕ, ◌+◌, ◌-◌, ◌^◌, ◌≤◌, ◌<◌, ltb, length, take, drop, get_or}
use Rattle.tile.specs.declared.Tile.{Tile}
use Rattle.tile.specs.Tile.{stop, tile_of}
use Rattle.tile.specs.Slots.{tiles}
use Rattle.quadtree.specs.Raster.{Aligned, Uniform, paint}
use Rattle.quadtree.specs.Quadtree.{quadtree}
use Rattle.list_push.specs.Merging.{up_to, MergedInto}
use Rattle.list_push.specs.declared.Top.{Top}
use Rattle.scan_gap.specs.declared.Gap.{Gap}
use Rattle.scan_gap.specs.declared.Full.{Full}

abbrev pub held : List ℕ → ℕ → ℕ → List ℕ
held s i b = take i s ++ drop b s

abbrev pub Fits : List ℕ → ℕ → ℕ → Type 0
Fits s i b = (i ≤ b) × (b ≤ length s)

pub record Awaits (n : ℕ) (f : ℕ → ℕ) (z : ℕ) (ts : List Tile) : Type 0 where
  pub is : ts ≡ quadtree n f
  pub inside : z < 4 ^ n
  pub last : (k c : ℕ) → Aligned k c → c ≤ z → z < c + 4 ^ k → c + 4 ^ k ≤ 4 ^ n → f (c + 4 ^ k - 1) ≡ 0

pub record Receives (n : ℕ) (f : ℕ → ℕ) (c k : ℕ) (ts : List Tile) : Type 0 where
  pub is : ts ≡ quadtree n f
  pub inside : c + 4 ^ k ≤ 4 ^ n
  pub aligned : Aligned k c
  pub free : Uniform f 0 c (c + 4 ^ k)
  pub last : (j d : ℕ) → Aligned j d → d < c + 4 ^ k → c + 4 ^ k ≤ d + 4 ^ j → d + 4 ^ j ≤ 4 ^ n →
      f (d + 4 ^ j - 1) ≡ 0

pub record Outcome : Type 0 where
  pub full : Bool
  pub front : ℕ
  pub back : ℕ

abbrev pub outcome : Result Gap Full → Outcome
outcome (Ok g) = record { full = false; front = g.front; back = g.back }
outcome (Err e) = record { full = true; front = e.gap.front; back = e.gap.back }

abbrev pub dotted : (ℕ → ℕ) → ℕ → ℕ → ℕ → ℕ
dotted f z a = paint f z (z + 1) a

pub record PlacedOn (n m : ℕ) (g : ℕ → ℕ) (ts us : List Tile) (r : Bool) : Type 0 where
  pub full : r ≡ ltb m (length (quadtree n g))
  pub done : r ≡ false → us ≡ quadtree n g
  pub kept : r ≡ true → us ≡ ts

pub record Placed (s t : List ℕ) (i b z a : ℕ) (r : Outcome) : Type 0 where
  pub fits : Fits t r.front r.back
  pub on : (n : ℕ) (f : ℕ → ℕ) → Awaits n f z (tiles (held s i b)) →
      PlacedOn n (length s) (dotted f z a) (tiles (held s i b)) (tiles (held t r.front r.back)) r.full

abbrev pub Low : List ℕ → ℕ → ℕ → Type 0
Low s i z = 0 < i → (tile_of (get_or s (i - 1) 0)).corner < z

abbrev pub High : List ℕ → ℕ → ℕ → Type 0
High s b z = b < length s → z ≤ (tile_of (get_or s b 0)).corner

-- the tile is pushed on the first part, or this part has no slot for it
pub record Pushed (s t : List ℕ) (i b : ℕ) (x : Tile) (r : Outcome) : Type 0 where
  pub top : Top
  pub merged : MergedInto s i x top
  pub fits : r.front ≤ b
  pub there : r.back ≡ b
  pub back : drop b t ≡ drop b s
  pub full : r.full ≡ ltb b (top.at + 1)
  pub done : r.full ≡ false → tiles (take r.front t) ≡ tiles (take top.at s) ++ up_to x top.size ∷ []
  pub kept : r.full ≡ true → tiles (take r.front t) ≡ tiles (take i s)
  pub low : Low s i x.corner → Low t r.front (stop x)

pub record Moved (s t : List ℕ) (i b z : ℕ) (g : Gap) : Type 0 where
  pub fits : Fits t g.front g.back
  pub held : held t g.front g.back ≡ held s i b
  pub low : Low t g.front z
  pub high : High t g.back z
