-- A claim as a whole: how it ends by its plan, the stores and what they leave.
--     tree_claimable, tree_known   what the checked list is
--     ends_refused, ends_fits   the ways that a claim ends
--     Bounds ..             the numbers of a plan, which `bounds` gives
--     known_drawn           what is written fits
--     known_few             25
--     known_fits            no refusal
--     known_preview         the preview's answer
--     known_done            the slots after the stores
use mathlib.Core.Path.{◌≡◌, ◌∙◌, ap, sym}
use mathlib.Core.List.{List, ◌++◌, map, append_assoc, map-append}
use Prim.Native.Nat.{ℕ, ◌+◌, ◌-◌, ◌*◌, ◌^◌, ◌≤◌, ◌<◌}
use native.Mathlib.Omega.{arith}
use lib.ListN.{length, take, drop, replicate, length-append, length-map}
use lib.Seq.{slice, take-take, length-take-le, take-append-add}
use Rattle.basics.proofs.Tests.{test_leb}
use Rattle.refusal.specs.Refusal.{accepted, slots_exceeded}
use Rattle.std.specs.Prelude.{Result, Ok, Err}
use Rattle.refusal.specs.declared.Refusal.{Refusal}
use Rattle.refusal.specs.Refused.{number}
use Rattle.refusal.proofs.RefusedLaws.{number_some}
use Rattle.refusal.specs.Checks.{After}
use Rattle.refusal.proofs.CheckLaws.{must_on, must_off}
use Rattle.tile.specs.declared.Tile.{Tile}
use Rattle.tile.specs.Tile.{tile_of, word_of, highest_order}
use Rattle.tile.specs.Slots.{tiles_in, filled}
use Rattle.tile.proofs.SlotsLaws.{words_tiles, length_tiles_in}
use Rattle.quadtree.specs.Raster.{account_at}
use Rattle.quadtree.specs.Quadtree.{blocks, quadtree}
use Rattle.quadtree.proofs.Alignment.{area_mono, area_pos}
use Rattle.claim_split.specs.Split.{pieces}
use Rattle.claim_split.proofs.Split.{split_pieces}
use Rattle.bed.specs.declared.Scan.{Scan}
use Rattle.bed.specs.Bed.{claimed}
use Rattle.claim_plan.specs.declared.Planned.{Planned}
use Rattle.claim_plan.specs.Plan.{inner, Claimable, Plans}
use Rattle.claim_plan.proofs.Counts.{changes_pieces, changes_tiles}
use Rattle.claim_store.specs.Stores.{Drawn, RoomMade}
use Rattle.claim.specs.declared.ClaimAnswer.{ClaimAnswer}
use Rattle.claim.specs.Claim.{claim_refusal, claim_of}
use Rattle.claim.specs.Preview.{preview_of}
use Rattle.claim.specs.Outcome.{plan_check, Known, Ends}
use Rattle.basics.proofs.MapLaws.{take_map, drop_map}
use Rattle.claim.proofs.Refusals.{checked_claimable, claim_of_done, refusal_passed}
use Rattle.claim.proofs.PreviewLaws.{claim_preview}

-- the checked list q: what passes is claimable, and its plan is known
module _ (scan : Scan) (s : List ℕ) (c k a : ℕ) {o : ℕ} {ws : List ℕ} (e : accepted ≡ plan_check scan s c k a) (q : (o ≡ scan.order) × (ws ≡ take scan.tiles s)) where
  tree_tiles : map tile_of ws ≡ tiles_in scan.tiles s
  unfolding tiles_in
  tree_tiles = ap (λ (x : List ℕ). map tile_of x) q.1

  pub tree_claimable : Claimable o (map tile_of ws) c k a
  tree_claimable = rw (q.0, tree_tiles) (checked_claimable scan s c k a (sym e)).1

  pub tree_known : {p : Planned} → Plans o (map tile_of ws) c k a p → Known scan s c k a p
  tree_known h = let l = checked_claimable scan s c k a (sym e) in record { passed = sym e; room = l.0; claimable = l.1; planned = rw (q.0, tree_tiles) at h }

-- a claim that ends in a refusal, or with a plan
module _ (scan : Scan) (s : List ℕ) (c k a : ℕ) {x : Result Planned Refusal} where
  pub ends_refused : {r : Refusal} → x ≡ Err r → Ends scan s c k a x → (number r ≡ accepted → ⊥) × (claim_refusal scan s c k a ≡ number r)
  ends_refused {r = r} e h = let z = number_some r in (λ y. omega (arith, y), rw e at h)

  pub ends_fits : {p : Planned} → x ≡ Ok p → Ends scan s c k a x → Known scan s c k a p × (p.tiles ≤ length s)
  ends_fits e h = rw e at h

pub record Bounds (length t a : ℕ) (p : Planned) : Type 0 where
  pub order : p.change.lo ≤ p.change.hi
  pub within : p.change.hi ≤ t
  pub room : t ≤ length
  pub pieces : p.pieces ≡ 3 * (p.change.whole.size - p.change.block.size) + inner a
  pub total : p.tiles ≡ p.change.lo + p.pieces + (t - p.change.hi)

-- the tiles that come
abbrev comes : ℕ → Planned → List Tile
comes a p = pieces p.change.block.size p.change.block.corner a p.change.owner (p.change.whole.size - p.change.block.size) p.change.whole.corner

module _ {scan : Scan} {s : List ℕ} {c k a : ℕ} {p : Planned} (w : Known scan s c k a p) where
  abbrev n : ℕ
  n = scan.order

  abbrev t : ℕ
  t = scan.tiles

  abbrev ts : List Tile
  ts = quadtree n (claimed (account_at (tiles_in t s)) c k a)

  count : length (tiles_in t s) ≡ t
  count = length_tiles_in t s w.room

  few : p.pieces ≡ 3 * (p.change.whole.size - p.change.block.size) + inner a
  few = w.planned.pieces ∙ sym (changes_pieces w.planned.change)

  pub bounds : Bounds (length s) t a p
  bounds = record {
    order = w.planned.change.order;
    within = omega (arith, w.planned.change.within, count);
    room = w.room;
    pieces = few;
    total = w.planned.tiles ∙ sym (changes_tiles w.planned.change t p.pieces count few);
  }

  pub known_drawn : (len : ℕ) → len ≡ length s → p.tiles ≤ length s → Drawn len p.change.lo p.change.block.size p.change.block.corner a p.change.owner p.change.whole.size p.change.whole.corner
  known_drawn len e h =
      let b : 4 ^ n ≤ 4 ^ highest_order = area_mono w.claimable.order in
      let d = w.planned.change in
      record {
        sizes = d.split.sizes;
        small = omega (arith, d.fits, w.claimable.order);
        from = d.split.from;
        upto = omega (arith, d.split.upto, area_pos p.change.block.size);
        room = omega (arith, d.room);
        owner = d.owner;
        account = w.claimable.account;
        fits = omega (arith, bounds.total, bounds.pieces);
      }

  pub known_few : length s < p.tiles → claim_refusal scan s c k a ≡ slots_exceeded
  known_few h = refusal_passed scan s c k a w.passed ∙ must_off slots_exceeded accepted (test_leb (length ts) (length s)) (λ l. omega (arith, w.planned.tiles))

  pub known_fits : p.tiles ≤ length s → claim_refusal scan s c k a ≡ accepted
  known_fits h = refusal_passed scan s c k a w.passed ∙ must_on slots_exceeded accepted (test_leb (length ts) (length s)) (omega (arith, w.planned.tiles))

  pub known_preview : p.tiles ≤ length s → ◌≡◌ {A = ClaimAnswer} (record { number = accepted; tiles = p.tiles }) (preview_of scan s c k a)
  known_preview h = rw w.planned.tiles (ap (λ (x : After ClaimAnswer). x.answer) (claim_of_done scan s c k a (known_fits h)) ∙ claim_preview scan s c k a)

  levels : p.change.whole.size ≡ p.change.block.size + (p.change.whole.size - p.change.block.size)
  levels = omega (arith, w.planned.change.split.sizes)

  come : blocks (claimed (account_at (tiles_in t s)) c k a) p.change.whole.size p.change.whole.corner ≡ comes a p
  come = split_pieces (p.change.whole.size - p.change.block.size) p.change.whole.size p.change.whole.corner levels w.planned.change.split

  words_are : map word_of ts ≡ take p.change.lo s ++ (map word_of (comes a p) ++ slice p.change.hi t s)
  unfolding tiles_in
  words_are = ap (λ (x : List Tile). map word_of x) (sym w.planned.change.result) ∙ rw (map-append word_of, map-append word_of, come, take_map tile_of, words_tiles, drop_map tile_of, words_tiles, take-take p.change.lo t s (omega (arith, bounds.order, bounds.within)))

  -- room made, the tiles written, the slots behind them cleared
  module _ {x y : List ℕ} (o : RoomMade s x p.change.lo p.change.hi t p.pieces) (ey : y ≡ take p.change.lo x ++ (map word_of (comes a p) ++ drop (p.change.lo + p.pieces) x)) where
    size : length (take p.change.lo s ++ map word_of (comes a p)) ≡ p.change.lo + p.pieces
    size = length-append (take p.change.lo s) (map word_of (comes a p)) ∙ omega (
      arith,
      length-take-le p.change.lo s (omega (arith, bounds.order, bounds.within, bounds.room)),
      length-map (comes a p) word_of,
      ap length come,
      w.planned.pieces,
    )

    front : take p.tiles y ≡ map word_of ts
    front =
        ap (λ (z : ℕ). take z y) bounds.total
        ∙ ap (λ (z : List ℕ). take (p.change.lo + p.pieces + (t - p.change.hi)) z) (ey ∙ ap (λ (z : List ℕ). z ++ (map word_of (comes a p) ++ drop (p.change.lo + p.pieces) x)) o.ahead ∙ sym (append_assoc (take p.change.lo s) _ _))
        ∙ (rw size at (take-append-add (take p.change.lo s ++ map word_of (comes a p)) (drop (p.change.lo + p.pieces) x) (t - p.change.hi)))
        ∙ rw o.tail (append_assoc (take p.change.lo s) _ _)
        ∙ sym words_are

    pub known_done : (r : List ℕ) → p.tiles ≤ length s → length y ≡ length s → r ≡ take p.tiles y ++ replicate (length y - p.tiles) 0 →
        ◌≡◌ {A = After ClaimAnswer} (record { answer = record { number = accepted; tiles = p.tiles }; storage = r }) (claim_of scan s c k a)
    unfolding filled
    known_done r h ly er = rw (er, front, ly, w.planned.tiles) (claim_of_done scan s c k a (known_fits h))
