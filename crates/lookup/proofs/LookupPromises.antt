-- What the answer is good for.
--     lookup_names     `LookupNames`: the largest scanned block with the pixel that has one account, and no other
--     lookup_bed       `LookupBed`: the same of the bed whose map it is, and 52
--     lookup_tile      `LookupTile`: for somebody's pixel a tile of the list
--     lookup_alike     `LookupAlike`: just the pixels of the block named look up to the same answer
--     lookup_whole     `LookupWhole`: one lookup at any of its pixels tells whether a block is scanned and has one account
--     lookup_last      `LookupLast`: one lookup at its last pixel tells whether a block is scanned
--     lookup_account   past the checks the account is that of the list
use mathlib.Core.Path.{◌≡◌, refl, ap, sym, ◌∙◌}
use mathlib.Core.List.{List}
use Prim.Native.Nat.{ℕ, ◌+◌, ◌-◌, ◌^◌, ◌≤◌, ◌<◌}
use native.Mathlib.Decide.{dec_lt}
use native.Mathlib.Omega.{arith}
use lib.ListN.{length}
use Rattle.refusal.specs.Refusal.{accepted, unscanned}
use Rattle.refusal.proofs.CheckLaws.{else_inv, by_unless}
use Rattle.morton.specs.Morton.{morton, Square}
use Rattle.morton.proofs.MortonLaws.{morton_lt}
use Rattle.morton.proofs.Squares.{square_bed, number_square, square_number}
use Rattle.tile.specs.declared.Tile.{Tile}
use Rattle.tile.specs.Tile.{highest_account}
use Rattle.tile.specs.Slots.{tiles_in, filled}
use Rattle.tile.proofs.SlotsLaws.{tiles_in_filled}
use Rattle.quadtree.specs.Raster.{Aligned, Uniform, account_at, ◌∈◌}
use Rattle.quadtree.specs.Quadtree.{quadtree}
use Rattle.quadtree.proofs.Alignment.{area_pos, aligned_room, aligned_nest}
use Rattle.quadtree.proofs.ValidLaws.{quadtree_valid, quadtree_shown}
use Rattle.quadtree.proofs.Linear.{quadtree_largest, quadtree_low}
use Rattle.list_check.proofs.Accepts.{list_check_filled}
use Rattle.bed.specs.declared.Scan.{Scan}
use Rattle.bed.specs.Places.{scan_of, place_of}
use Rattle.bed.specs.Bed.{Bed}
use Rattle.bed.specs.Shown.{shown_bed}
use Rattle.bed.proofs.ScannedBlocks.{place_upto}
use Rattle.checks.proofs.AskedLaws.{block_passed}
use Rattle.scan_check.specs.Opening.{opening}
use Rattle.scan_check.proofs.ScannedLaws.{pixel_unscanned, pixel_scanned}
use Rattle.scan_check.proofs.Opening.{opened_opening}
use Rattle.lookup.specs.declared.LookupAnswer.{LookupAnswer}
use Rattle.lookup.specs.Block.{block_at, WhollyScanned, Names}
use Rattle.lookup.specs.Lookup.{lookup_check, found_of, lookup_of}
use Rattle.lookup.specs.Promises.{block_of, LookupNames, LookupBed, LookupTile, LookupAlike, LookupWhole, LookupLast}
use Rattle.lookup.proofs.BlockLaws.{names_same, names_moves, names_cong, block_at_tile, block_at_account}
use Rattle.lookup.proofs.LookupLaws.{lookup_check_passed, lookup_check_last, point_names, lookup_of_number, lookup_of_block}

pub lookup_names : LookupNames
unfolding LookupNames
lookup_names scan slots c r e =
    let p = sym (lookup_of_number scan slots c r) ∙ e in
    let b = point_names scan slots c r (lookup_check_passed scan slots c r p) in
    rw (lookup_of_block scan slots c r p) (b, λ d q. names_same q b)

-- past the opening checks and 31, the number by the pixel's place
module _ (scan : Scan) (slots : List ℕ) (c r : ℕ) (e : opening scan slots ≡ accepted) (h : c < 2 ^ scan.order) (l : r < 2 ^ scan.order) where
  abbrev place : ℕ
  place = place_of scan.kind scan.order (morton scan.order c r)

  point_accepted : place < scan.pixels → lookup_check scan slots c r ≡ accepted
  point_accepted g = lookup_check_last scan slots c r e h l ∙ sym (pixel_scanned scan (morton scan.order c r) g)

  point_refused : scan.pixels ≤ place → (lookup_of scan slots c r).number ≡ unscanned
  point_refused g = lookup_of_number scan slots c r ∙ lookup_check_last scan slots c r e h l ∙ sym (pixel_unscanned scan (morton scan.order c r) g)

pub lookup_bed : LookupBed
unfolding LookupBed
lookup_bed m b c r o s low blank room h g =
    let n = b.order in
    let f = b.account in
    let ts = quadtree n f in
    let scan = scan_of b.kind n b.scanned (length ts) in
    let accounts = quadtree_low n f highest_account low in
    let shown = tiles_in_filled m ts (λ t i. record { size = omega (arith, (quadtree_largest n f i).quadrant.fits); account = accounts t i }) in
    let e = opened_opening scan (filled m ts) (list_check_filled n m ts o room accounts (quadtree_valid n f)) s (λ z l p. rw shown (quadtree_shown n f z l ∙ blank z l p)) in
    let z = morton_lt n c r in (
      λ p.
          let on = point_accepted scan (filled m ts) c r e h g p in
          let named = point_names scan (filled m ts) c r (lookup_check_passed scan (filled m ts) c r on) in
          rw (lookup_of_block scan (filled m ts) c r on) (refl, names_cong (λ y l. rw shown (quadtree_shown n f y l)) z named),
      point_refused scan (filled m ts) c r e h g,
    )

pub lookup_tile : LookupTile
unfolding LookupTile lookup_of
lookup_tile scan slots c r =
    by_unless (λ (a : LookupAnswer). 0 < a.account → block_of a ∈ tiles_in scan.tiles slots) (lookup_check scan slots c r) (λ x h. absurd (omega arith))
    (λ e. block_at_tile (shown_bed scan slots) (tiles_in scan.tiles slots) (morton scan.order c r))

pub lookup_account : (scan : Scan) (slots : List ℕ) (c r : ℕ) → lookup_check scan slots c r ≡ accepted → (lookup_of scan slots c r).account ≡ account_at (tiles_in scan.tiles slots) (morton scan.order c r)
lookup_account scan slots c r e =
    let p = lookup_check_passed scan slots c r e in
    rw (lookup_of_block scan slots c r e) (block_at_account scan.kind scan.order scan.pixels (tiles_in scan.tiles slots) p.opened.valid p.opened.blank (morton scan.order c r) (morton_lt scan.order c r) p.scanned)

-- a block of the bed has a pixel just where the pixel's column and row lie in the block's square
module _ {n d k : ℕ} (h : k ≤ n) (m : Aligned k d) (c r : ℕ) where
  has_square : c < 2 ^ n → r < 2 ^ n → d ≤ morton n c r → morton n c r < d + 4 ^ k → Square n k d c r
  has_square o p l g = rw (← m.is) at (number_square n k m.times c r h o p (omega (arith, m.is)) (omega (arith, m.is)))

  square_has : d < 4 ^ n → Square n k d c r → (d ≤ morton n c r) × (morton n c r < d + 4 ^ k)
  square_has l s = let q = square_number n k m.times c r h (omega (arith, m.is)) (rw m.is at s) in (omega (arith, m.is, q.0), omega (arith, m.is, q.1))

  square_in : Square n k d c r → (c < 2 ^ n) × (r < 2 ^ n)
  square_in s = square_bed n k m.times c r h (rw m.is at s)

module _ (scan : Scan) (slots : List ℕ) (c r : ℕ) (e : (lookup_of scan slots c r).number ≡ accepted) where
  abbrev n : ℕ
  n = scan.order

  abbrev block : Tile
  block = block_at (shown_bed scan slots) (tiles_in scan.tiles slots) (morton n c r)

  passed : lookup_check scan slots c r ≡ accepted
  passed = sym (lookup_of_number scan slots c r) ∙ e

  named : Names (shown_bed scan slots) (morton n c r) block
  named = point_names scan slots c r (lookup_check_passed scan slots c r passed)

  module _ (c' r' : ℕ) where
    alike_square : lookup_of scan slots c' r' ≡ found_of block → Square n block.size block.corner c' r'
    alike_square h =
        let g = sym (lookup_of_number scan slots c' r') ∙ ap (λ (a : LookupAnswer). a.number) h in
        let p = lookup_check_passed scan slots c' r' g in
        let s = ap block_of (sym (lookup_of_block scan slots c' r' g) ∙ h) in
        let v = rw s at (point_names scan slots c' r' p).has in
        has_square named.fits named.aligned c' r' p.column p.row v.0 v.1

    square_alike : Square n block.size block.corner c' r' → lookup_of scan slots c' r' ≡ found_of block
    unfolding lookup_check
    square_alike s =
        let v = square_has named.fits named.aligned c' r' named.inside s in
        let i = square_in named.fits named.aligned c' r' s in
        let b = point_accepted scan slots c' r' (else_inv _ _ passed).0 i.0 i.1 (named.scanned (morton n c' r') v.0 v.1) in
        lookup_of_block scan slots c' r' b ∙ ap found_of (names_same (point_names scan slots c' r' (lookup_check_passed scan slots c' r' b)) (names_moves named (morton n c' r') v))

pub lookup_alike : LookupAlike
unfolding LookupAlike
lookup_alike scan slots c r c' r' e = rw (lookup_of_block scan slots c r (passed scan slots c r e)) (alike_square scan slots c r e c' r', square_alike scan slots c r e c' r')

-- the block named at a pixel of a block, and that block
module _ {b : Bed} {z : ℕ} {t : Tile} (p : Names b z t) (d k a : ℕ) (h : k ≤ b.order) (m : Aligned k d) (low : d ≤ z) (high : z < d + 4 ^ k) where
  whole_named : WhollyScanned b d (d + 4 ^ k) → Uniform b.account a d (d + 4 ^ k) → (k ≤ t.size) × (t.account ≡ a)
  whole_named s u = (large, account)
    where
      account : t.account ≡ a
      account = sym (p.uniform z p.has.0 p.has.1) ∙ u z low high

      large : k ≤ t.size
      large = elim (dec_lt t.size k) [ yes l ↦ absurd (p.top k d l h m low high s (λ y q g. u y q g ∙ sym account)) | no l ↦ omega arith ]

  named_whole : (k ≤ t.size) × (t.account ≡ a) → WhollyScanned b d (d + 4 ^ k) × Uniform b.account a d (d + 4 ^ k)
  named_whole e =
      let o = aligned_nest {j = k} {k = t.size} {x = d} {c = t.corner} e.0 m p.aligned (omega (arith, p.has.0)) (omega (arith, p.has.1)) in
      (λ y l g. p.scanned y (omega (arith, o.0)) (omega (arith, o.1)), λ y l g. p.uniform y (omega (arith, o.0)) (omega (arith, o.1)) ∙ e.1)

pub lookup_whole : LookupWhole
unfolding LookupWhole
lookup_whole scan slots d k a c r e b s =
    let q = block_passed scan.order d k b in
    let i = square_in q.0 q.1.1 c r s in
    let v = square_has q.0 q.1.1 c r q.1.0 s in
    let z = morton scan.order c r in (
      λ w.
          let on = point_accepted scan slots c r e i.0 i.1 (w.0 z v.0 v.1) in
          let p = point_names scan slots c r (lookup_check_passed scan slots c r on) in
          rw (lookup_of_block scan slots c r on) (refl, whole_named p d k a q.0 q.1.1 v.0 v.1 w.0 w.1),
      λ w.
          let on = sym (lookup_of_number scan slots c r) ∙ w.0 in
          let p = point_names scan slots c r (lookup_check_passed scan slots c r on) in
          named_whole p d k a q.0 q.1.1 v.0 v.1 (rw (lookup_of_block scan slots c r on) at w.1),
    )

pub lookup_last : LookupLast
unfolding LookupLast
lookup_last scan slots d k c r e b h l last =
    let q = block_passed scan.order d k b in
    let z = morton scan.order c r in
    let pos = area_pos k in
    let is : d + 4 ^ k - 1 ≡ z = omega arith in
    let upto = rw is at (place_upto scan.kind scan.order scan.pixels d k q.1.1 (aligned_room q.0 q.1.1 q.1.0)) in (
      λ w. lookup_of_number scan slots c r ∙ point_accepted scan slots c r e h l (w z (omega arith) (omega arith)),
      λ w. elim (dec_lt (place_of scan.kind scan.order z) scan.pixels) [
        | yes g ↦ absurd (w (λ y i j. omega (arith, upto y i j)))
        | no g ↦ point_refused scan slots c r e h l (omega arith)
      ],
    )
