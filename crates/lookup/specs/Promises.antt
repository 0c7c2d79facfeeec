-- What lookup's answer is good for: statements over `lookup_of`, for every scan, point and order.
--     block_of a      the block that an answer names, with its account
--     LookupNames    the block named has the pixel, is wholly scanned and has on all of it the account answered; no
--                    larger quadrant block that has the pixel is both: for somebody's pixel and for nobody's alike; and
--                    it is the only such block
--     LookupBed      the same of the bed: on the map of any bed, in the middle of its scan too, lookup at a scanned
--                    pixel is accepted and names that block of the bed; at an unscanned one it gives 52
--     LookupTile     for somebody's pixel it is a tile of the list
--     LookupAlike    just the pixels of the block named look up to the same answer, so that a head that stays inside
--                    need not ask again
--     LookupWhole    a block is scanned and has one account just where the lookup at one of its pixels, any, is
--                    accepted and names a block at least as large: a panel asks once, under a larger tile too
--     LookupLast     at the last pixel of a block lookup is accepted where the block is wholly scanned, and gives 52
--                    where it is not
use Rattle.std.specs.Prelude.{◌≡◌, List, ◌↔◌, ℕ, ◌+◌, ◌^◌, ◌≤◌, ◌<◌, length}
use Rattle.refusal.specs.Refusal.{accepted, unscanned}
use Rattle.morton.specs.Morton.{morton, Square}
use Rattle.tile.specs.declared.Tile.{Tile}
use Rattle.tile.specs.Tile.{tile, highest_order, highest_account}
use Rattle.tile.specs.Slots.{tiles_in, filled}
use Rattle.quadtree.specs.Raster.{Uniform, ◌∈◌}
use Rattle.quadtree.specs.Quadtree.{quadtree}
use Rattle.bed.specs.declared.Scan.{Scan}
use Rattle.bed.specs.Places.{scan_of, place_of}
use Rattle.bed.specs.Bed.{Bed}
use Rattle.bed.specs.Shown.{shown_bed}
use Rattle.checks.specs.Asked.{block_check}
use Rattle.scan_check.specs.Opening.{opening}
use Rattle.lookup.specs.declared.LookupAnswer.{LookupAnswer}
use Rattle.lookup.specs.Block.{WhollyScanned, Names}
use Rattle.lookup.specs.Lookup.{lookup_of}

abbrev pub block_of : LookupAnswer → Tile
block_of a = tile a.corner a.size a.account

unfoldable pub LookupNames : Type 0
LookupNames = (scan : Scan) (slots : List ℕ) (c r : ℕ) → (lookup_of scan slots c r).number ≡ accepted →
    Names (shown_bed scan slots) (morton scan.order c r) (block_of (lookup_of scan slots c r))
    × ((t : Tile) → Names (shown_bed scan slots) (morton scan.order c r) t → t ≡ block_of (lookup_of scan slots c r))

-- the lookup on a bed's map, which is in m slots, with the record of its scan
abbrev pub bed_lookup : ℕ → Bed → ℕ → ℕ → LookupAnswer
bed_lookup m b c r =
    let list : List Tile = quadtree b.order b.account in
    lookup_of (scan_of b.kind b.order b.scanned (length list)) (filled m list) c r

-- b is a bed of accounts whose unscanned pixels are nobody's, and m slots have room for its list
unfoldable pub LookupBed : Type 0
LookupBed = (m : ℕ) (b : Bed) (c r : ℕ) → b.order ≤ highest_order → b.scanned ≤ 4 ^ b.order →
    ((z : ℕ) → z < 4 ^ b.order → b.account z ≤ highest_account) →
    ((z : ℕ) → z < 4 ^ b.order → b.scanned ≤ place_of b.kind b.order z → b.account z ≡ 0) →
    length (quadtree b.order b.account) ≤ m → c < 2 ^ b.order → r < 2 ^ b.order →
    let z : ℕ = morton b.order c r in
    (place_of b.kind b.order z < b.scanned →
    ((bed_lookup m b c r).number ≡ accepted) × Names b z (block_of (bed_lookup m b c r)))
    × (b.scanned ≤ place_of b.kind b.order z → (bed_lookup m b c r).number ≡ unscanned)

unfoldable pub LookupTile : Type 0
LookupTile = (scan : Scan) (slots : List ℕ) (c r : ℕ) → 0 < (lookup_of scan slots c r).account →
    block_of (lookup_of scan slots c r) ∈ tiles_in scan.tiles slots

unfoldable pub LookupAlike : Type 0
LookupAlike = (scan : Scan) (slots : List ℕ) (c r c' r' : ℕ) → (lookup_of scan slots c r).number ≡ accepted →
    (lookup_of scan slots c' r' ≡ lookup_of scan slots c r)
    ↔ Square scan.order (lookup_of scan slots c r).size (lookup_of scan slots c r).corner c' r'

-- d and k are a block of the bed; for any account a, nobody's too
unfoldable pub LookupWhole : Type 0
LookupWhole = (scan : Scan) (slots : List ℕ) (d k a c r : ℕ) → opening scan slots ≡ accepted →
    block_check scan.order d k ≡ accepted → Square scan.order k d c r →
    (WhollyScanned (shown_bed scan slots) d (d + 4 ^ k) × Uniform (shown_bed scan slots).account a d (d + 4 ^ k))
    ↔ (((lookup_of scan slots c r).number ≡ accepted)
    × ((k ≤ (lookup_of scan slots c r).size) × ((lookup_of scan slots c r).account ≡ a)))

unfoldable pub LookupLast : Type 0
LookupLast = (scan : Scan) (slots : List ℕ) (d k c r : ℕ) → opening scan slots ≡ accepted →
    block_check scan.order d k ≡ accepted → c < 2 ^ scan.order → r < 2 ^ scan.order →
    morton scan.order c r + 1 ≡ d + 4 ^ k →
    (WhollyScanned (shown_bed scan slots) d (d + 4 ^ k) → (lookup_of scan slots c r).number ≡ accepted)
    × ((WhollyScanned (shown_bed scan slots) d (d + 4 ^ k) → ⊥) → (lookup_of scan slots c r).number ≡ unscanned)
