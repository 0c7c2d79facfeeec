-- A feed whole, and a fresh scan: the answer and the slots.
--     feed_refused    an opening check refuses
--     feed_done       the accounts were fed, and the gap is closed
--     fresh_of_blank   a fresh scan has no tile
--     feed_of_room     a feed of a scan without tiles leaves a list that fits the slots
use mathlib.Core.Path.{◌≡◌, ◌∙◌, refl, ap, sym}
use mathlib.Core.List.{List, ◌++◌}
use Prim.Native.Nat.{ℕ, ◌+◌, ◌-◌, ◌≤◌}
use native.Mathlib.Omega.{arith}
use lib.ListN.{length, replicate, length-replicate}
use Rattle.refusal.specs.Refusal.{accepted}
use Rattle.refusal.specs.Checks.{After}
use Rattle.refusal.proofs.CheckLaws.{unless_on, unless_off, by_unless}
use Rattle.tile.specs.declared.Tile.{Tile}
use Rattle.tile.specs.Slots.{tiles_in, filled}
use Rattle.tile.proofs.SlotsLaws.{words_tiles, filled_length}
use Rattle.quadtree.specs.Raster.{account_at}
use Rattle.quadtree.specs.Quadtree.{quadtree}
use Rattle.quadtree.proofs.Blocks.{blank_quadtree}
use Rattle.bed.specs.declared.Kind.{Kind}
use Rattle.bed.specs.declared.Scan.{Scan}
use Rattle.bed.specs.Bed as bed
use Rattle.bed.specs.Shown.{shown_bed}
use Rattle.bed.proofs.BedLaws.{Room, feed_pixels_room}
use Rattle.scan_gap.specs.Gap.{held}
use Rattle.scan_gap.proofs.Parts.{held_length}
use Rattle.scan_feed.specs.Feeding.{AfterPixels, FedTo}
use Rattle.scan.specs.FreshScan.{Fresh, fresh_of}
use Rattle.scan_check.specs.Opening.{opening}
use Rattle.scan.specs.Feed.{Fed, fed_to, feed_of}

module _ (c : Scan) (slots bytes : List ℕ) where
  abbrev pub plain : bed.BedFed
  plain = bed.feed_pixels (length slots) 0 (shown_bed c slots) bytes

  pub feed_refused : (r : ℕ) → r ≡ opening c slots → (r ≡ accepted → ⊥) → ◌≡◌ {A = After Fed} (record { answer = record { number = r; taken = 0; scan = c }; storage = slots }) (feed_of c slots bytes)
  unfolding feed_of
  feed_refused r e h = rw e (sym (unless_off (opening c slots) _ _ (λ q. h (e ∙ q))))

  module _ (t v : List ℕ) (r : AfterPixels) (fed : FedTo c plain t r) (st : length t ≡ length slots) (sv : length v ≡ length slots)
      (closed : v ≡ held t r.front r.back ++ replicate (r.back - r.front) 0) where
    abbrev ts : List Tile
    ts = quadtree plain.bed.order plain.bed.account

    count : r.front + (length v - r.back) ≡ length ts
    count = omega (arith, st, sv, held_length t r.front r.back fed.fits.0 fed.fits.1, ap length fed.list)

    left : v ≡ filled (length slots) ts
    unfolding filled
    left =
        let d : r.back - r.front ≡ length slots - length ts = omega (arith, count, fed.fits.0, fed.fits.1) in
        closed ∙ rw (← words_tiles (held t r.front r.back), d, fed.list)

    pub feed_done : opening c slots ≡ accepted →
        ◌≡◌ {A = After Fed} (record { answer = record { number = r.number; taken = r.taken; scan = record { kind = c.kind; order = c.order; pixels = r.pixels; tiles = r.front + (length v - r.back) } }; storage = v }) (feed_of c slots bytes)
    unfolding feed_of fed_to
    feed_done e =
        (λ i. record { answer = record { number = fed.number i; taken = fed.taken i; scan = record { kind = fed.kind i; order = fed.order i; pixels = fed.pixels i; tiles = count i } }; storage = left i })
        ∙ sym (unless_on (opening c slots) _ (fed_to (length slots) plain) e)

pub fresh_of_blank : (k : Kind) (n : ℕ) (slots : List ℕ) → ((fresh_of k n slots).answer.scan.tiles ≡ 0) × (length (fresh_of k n slots).storage ≡ length slots)
unfolding fresh_of
fresh_of_blank k n slots = by_unless (λ (r : After Fresh). (r.answer.scan.tiles ≡ 0) × (length r.storage ≡ length slots)) _ (λ r. (refl, refl)) (λ q. (refl, length-replicate (length slots) 0))

blank_room : (c : Scan) (slots : List ℕ) (m : ℕ) → c.tiles ≡ 0 → Room m (shown_bed c slots)
unfolding tiles_in account_at
blank_room c slots m e = rw (e, blank_quadtree c.order) (omega arith)

pub feed_of_room : (c : Scan) (slots bytes : List ℕ) → c.tiles ≡ 0 → ((feed_of c slots bytes).answer.scan.tiles ≤ length slots) × (length (feed_of c slots bytes).storage ≡ length slots)
unfolding feed_of fed_to
feed_of_room c slots bytes e =
    let h = feed_pixels_room (length slots) 0 (shown_bed c slots) bytes (blank_room c slots (length slots) e) in
    by_unless (λ (r : After Fed). (r.answer.scan.tiles ≤ length slots) × (length r.storage ≡ length slots)) (opening c slots) (λ r. (omega arith, refl)) (λ q. (h, filled_length (length slots) _ h))
