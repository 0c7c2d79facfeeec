-- Inner: one account of a feed and all of them, on a list with a gap. Definitions only.
--     AfterPixel, left r          what one account leaves: its refusal's number, or that it is accepted, and the gap
--     AfterPixels, reached r      what a feed leaves: that number, the count taken, the pixels scanned, and the gap
--     AtPlace k n s p             p is the pixel with s places before its own in the scan of kind k and order n, with
--                                 its levels
--     Trails k s i b p            in Morton order no word lies behind the gap, and the last tile ahead of it starts
--                                 ahead of the pixel p
--     Holds k n s f ts            ts is the list of this bed, and what is not scanned is nobody's
--     SteppedOn m b a r ts us     r is what the checks say of a on the bed b; if they accept it, us is the list of the
--                                 bed with it, else ts again
--     Stepped k n p a s t i b r   from the slots s to t the account a went to the place with p before it, or was
--                                 refused; the gap trails on, and an account that is accepted had a place
--     OnWay m k n bytes j p f t r   r is how far the plain bed's feed has come from the raster f, with p pixels scanned
--                                 and j bytes taken: the list in t is that of its bed, and the feed goes on from there,
--                                 or stops there
--     FedOn k n bytes j p s t i b r   so it is from the slots s to t, of each raster whose list is in s
--     FedTo c e t r               the answer r and the list with a gap in the slots t are what the plain bed's feed e
--                                 gives
use Rattle.std.specs.Prelude.{◌≡◌, Result, Ok, Err, List, ℕ, ◌+◌, ◌^◌, ◌≤◌, ◌<◌, length, drop}
use Rattle.refusal.specs.Refusal.{accepted}
use Rattle.refusal.specs.Refused as refused
use Rattle.tile.specs.declared.Tile.{Tile}
use Rattle.tile.specs.Slots.{tiles}
use Rattle.quadtree.specs.Quadtree.{quadtree}
use Rattle.bed.specs.declared.Kind.{Kind}
use Rattle.bed.specs.declared.Kind.TheVariants.{Morton}
use Rattle.bed.specs.declared.Scan.{Scan}
use Rattle.bed.specs.Places.{pixel_at}
use Rattle.bed.specs.Bed as bed
use Rattle.quadtree.specs.Tiling.{Levels}
use Rattle.scan_gap.specs.Gap.{held, Fits, Low}
use Rattle.scan_gap.specs.declared.Gap.{Gap}
use Rattle.scan_stretch.specs.Stretch.{Blank}
use Rattle.scan_feed.specs.declared.Place.{Place}
use Rattle.scan_feed.specs.declared.Stopped.{Stopped}
use Rattle.scan_feed.specs.declared.Progress.{Progress}
use Rattle.scan_feed.specs.declared.Halted.{Halted}

pub record AfterPixel : Type 0 where
  pub number : ℕ
  pub front : ℕ
  pub back : ℕ

abbrev pub left : Result Gap Stopped → AfterPixel
left (Ok g) = record { number = accepted; front = g.front; back = g.back }
left (Err e) = record { number = refused.number e.refusal; front = e.gap.front; back = e.gap.back }

pub record AfterPixels : Type 0 where
  pub number : ℕ
  pub taken : ℕ
  pub pixels : ℕ
  pub front : ℕ
  pub back : ℕ

abbrev pub reached : Result Progress Halted → AfterPixels
reached (Ok p) = record { number = accepted; taken = p.taken; pixels = p.pixels; front = p.gap.front; back = p.gap.back }
reached (Err e) = record { number = refused.number e.refusal; taken = e.at.taken; pixels = e.at.pixels; front = e.at.gap.front; back = e.at.gap.back }

pub record AtPlace (k : Kind) (n s : ℕ) (p : Place) : Type 0 where
  pub z : p.z ≡ pixel_at k n s
  pub levels : Levels (p.z + 1) p.levels

-- what a scan in Morton order keeps, so that it needs no search
abbrev pub Trails : Kind → List ℕ → ℕ → ℕ → ℕ → Type 0
Trails k s i b p = k ≡ Morton → (b ≡ length s) × Low s i p

pub record Holds (k : Kind) (n s : ℕ) (f : ℕ → ℕ) (ts : List Tile) : Type 0 where
  pub is : ts ≡ quadtree n f
  pub within : s ≤ 4 ^ n
  pub blank : Blank k n s f

pub record SteppedOn (m : ℕ) (b : bed.Bed) (a r : ℕ) (ts us : List Tile) : Type 0 where
  pub number : r ≡ bed.pixel_check m b a
  pub done : r ≡ accepted → us ≡ quadtree b.order (bed.put_pixel b a).account
  pub kept : (r ≡ accepted → ⊥) → us ≡ ts

pub record Stepped (k : Kind) (n p a : ℕ) (s t : List ℕ) (i b : ℕ) (r : AfterPixel) : Type 0 where
  pub fits : Fits t r.front r.back
  pub trails : Trails k t r.front r.back (p + 1)
  pub going : r.number ≡ accepted → p < 4 ^ n
  pub on : (f : ℕ → ℕ) → Holds k n p f (tiles (held s i b)) →
      SteppedOn (length s) (bed.bed_of k n p f) a r.number (tiles (held s i b)) (tiles (held t r.front r.back))

pub record OnWay (m : ℕ) (k : Kind) (n : ℕ) (bytes : List ℕ) (j p : ℕ) (f : ℕ → ℕ) (t : List ℕ)
    (r : AfterPixels) : Type 0 where
  pub raster : ℕ → ℕ
  pub holds : Holds k n r.pixels raster (tiles (held t r.front r.back))
  pub trails : r.number ≡ accepted → Trails k t r.front r.back r.pixels
  pub goes : r.number ≡ accepted → bed.feed_pixels m j (bed.bed_of k n p f) (drop j bytes) ≡
      bed.feed_pixels m r.taken (bed.bed_of k n r.pixels raster) (drop r.taken bytes)
  pub stops : (r.number ≡ accepted → ⊥) → bed.feed_pixels m j (bed.bed_of k n p f) (drop j bytes) ≡
      bed.stopped r.number r.taken (bed.bed_of k n r.pixels raster)

pub record FedOn (k : Kind) (n : ℕ) (bytes : List ℕ) (j p : ℕ) (s t : List ℕ) (i b : ℕ) (r : AfterPixels) : Type 0 where
  pub fits : Fits t r.front r.back
  pub along : r.pixels + j ≡ p + r.taken
  pub within : r.pixels ≤ 4 ^ n
  pub given : r.taken ≤ length bytes
  pub on : (f : ℕ → ℕ) → Holds k n p f (tiles (held s i b)) → OnWay (length s) k n bytes j p f t r

pub record FedTo (c : Scan) (e : bed.BedFed) (t : List ℕ) (r : AfterPixels) : Type 0 where
  pub number : r.number ≡ e.number
  pub taken : r.taken ≡ e.taken
  pub pixels : r.pixels ≡ e.bed.scanned
  pub kind : c.kind ≡ e.bed.kind
  pub order : c.order ≡ e.bed.order
  pub fits : Fits t r.front r.back
  pub list : tiles (held t r.front r.back) ≡ quadtree e.bed.order e.bed.account
