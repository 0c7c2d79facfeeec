-- The demands as statements. Demand 1 is the contracts of the offered calls.
--     Left m s b                the state s that calls left in record and m slots, all of it, against the plain bed b
--     Demand2 k n m pixels count s   the state s that feeds of pixels left in m slots is the linear quadtree of the
--                               pixels, decodes to them, and counts them, as the feeds' answers do
--     Demand3 ..                two lists of calls, each taken whole
--     NoneUnscanned             a corollary: in such a list 22 is met by no call
use Rattle.std.specs.Prelude.{◌≡◌, ◌↔◌, ℕ, ◌+◌, ◌-◌, ◌^◌, ◌≤◌, ◌<◌, length, take, drop, get_or, replicate}
use mathlib.Core.List.{List, [], ◌∷◌, ◌++◌, Memᴰ}
use Rattle.refusal.specs.Refusal.{accepted, tile_unscanned}
use Rattle.tile.specs.declared.Tile.{Tile}
use Rattle.tile.specs.Tile.{highest_order}
use Rattle.tile.specs.Slots.{tiles_in}
use Rattle.quadtree.specs.Raster.{Shows}
use Rattle.quadtree.specs.Quadtree.{LinearQuadtree}
use Rattle.bed.specs.declared.Kind.{Kind}
use Rattle.bed.specs.Places.{place_of, rows}
use Rattle.bed.specs.Bed.{Bed, bed_of}
use Rattle.scan_check.specs.Opening.{opening}
use Rattle.decode.specs.Decode.{decode_of}
use Rattle.scan.specs.FreshScan.{fresh_of}
use Rattle.demands.specs.Calls.{Call, feed, Answer, State, Step, step, answers, left}
use Rattle.demands.specs.Calls.{plain_answers, plain_left, Begins}

-- the tile list in use
abbrev pub list_in : State → List Tile
list_in s = tiles_in s.scan.tiles s.slots

-- decoding what was left, into a raster of the right length, writes the raster f row after row
abbrev pub Decodes : State → (ℕ → ℕ) → Type 0
Decodes s f = (raster : List ℕ) → length raster ≡ 4 ^ s.scan.order →
    decode_of s.scan.order s.scan.tiles s.slots raster ≡ record
    { answer = accepted; storage = rows s.scan.order f }

-- the whole state: each field of the record, the list in the first slots, and the slots behind it, of which there are
-- as many as were lent
pub record Left (m : ℕ) (s : State) (b : Bed) : Type 0 where
  pub kind : s.scan.kind ≡ b.kind
  pub order : s.scan.order ≡ b.order
  pub scanned : s.scan.pixels ≡ b.scanned
  pub tiles : s.scan.tiles ≡ length (list_in s)
  pub lent : length s.slots ≡ m
  pub linear : LinearQuadtree b.order b.account (list_in s)
  pub rest : drop s.scan.tiles s.slots ≡ replicate (m - s.scan.tiles) 0
  pub decodes : Decodes s b.account
  pub least : (ts : List Tile) → Shows b.order b.account ts → length (list_in s) ≤ length ts

-- one feed: what it answers, and the state that it leaves
abbrev pub fed : State → List ℕ → Step
fed s bytes = step s (feed bytes)

-- the feeds in turn, each handed what the one before left: the state left, the pixels taken by all of them, and the sum
-- of the counts answered
unfoldable pub after_feeds : State → List (List ℕ) → State
after_feeds s [] = s
after_feeds s (bytes ∷ feeds) = after_feeds (fed s bytes).state feeds

unfoldable pub taken : State → List (List ℕ) → List ℕ
taken s [] = []
taken s (bytes ∷ feeds) = take (fed s bytes).answer.taken bytes ++ taken (fed s bytes).state feeds

unfoldable pub counts_answered : State → List (List ℕ) → ℕ
counts_answered s [] = 0
counts_answered s (bytes ∷ feeds) = (fed s bytes).answer.taken + counts_answered (fed s bytes).state feeds

abbrev pub fresh_state : Kind → ℕ → List ℕ → State
fresh_state k n slots = let r = fresh_of k n slots in record { scan = r.answer.scan; slots = r.storage }

-- the i-th pixel stands on the i-th place of the scan, and 0 on the places behind
abbrev pub scan_raster : Kind → ℕ → List ℕ → ℕ → ℕ
scan_raster k n pixels z = get_or pixels (place_of k n z) 0

abbrev pub scan_bed : Kind → ℕ → List ℕ → Bed
scan_bed k n pixels = bed_of k n (length pixels) (scan_raster k n pixels)

-- `take` stops at the end of the bytes: the counts answered must add up to the pixels, lest a feed answer more than it
-- was handed
pub record Demand2 (k : Kind) (n m : ℕ) (pixels : List ℕ) (count : ℕ) (s : State) : Type 0 where
  pub adds_up : count ≡ length pixels
  pub left : Left m s (scan_bed k n pixels)

-- demand 2, for every kind, order, content of the slots and way of cutting the pixels into feeds
unfoldable pub DemandTwo : Type 0
DemandTwo = (k : Kind) (n : ℕ) (slots : List ℕ) (feeds : List (List ℕ)) → n ≤ highest_order →
    let s : State = fresh_state k n slots in
    Demand2 k n (length slots) (taken s feeds) (counts_answered s feeds) (after_feeds s feeds)

pub record Demand3 (s₁ s₂ : State) (b₁ b₂ : Bed) (cs₁ cs₂ : List Call) : Type 0 where
  pub answers₁ : answers s₁ cs₁ ≡ plain_answers (length s₁.slots) b₁ cs₁
  pub answers₂ : answers s₂ cs₂ ≡ plain_answers (length s₂.slots) b₂ cs₂
  pub left₁ : Left (length s₁.slots) (left s₁ cs₁) (plain_left (length s₁.slots) b₁ cs₁)
  pub left₂ : Left (length s₂.slots) (left s₂ cs₂) (plain_left (length s₂.slots) b₂ cs₂)
  pub same : (plain_left (length s₁.slots) b₁ cs₁).order ≡ (plain_left (length s₂.slots) b₂ cs₂).order →
      (list_in (left s₁ cs₁) ≡ list_in (left s₂ cs₂)) ↔
      ((z : ℕ) → z < 4 ^ (plain_left (length s₁.slots) b₁ cs₁).order →
      (plain_left (length s₁.slots) b₁ cs₁).account z ≡ (plain_left (length s₂.slots) b₂ cs₂).account z)

-- demand 3: any numbers of slots with any content, any records and beds before, any lists of calls begun by an accepted
-- fresh scan or reading
unfoldable pub DemandThree : Type 0
DemandThree = (s₁ s₂ : State) (b₁ b₂ : Bed) (c₁ c₂ : Call) (cs₁ cs₂ : List Call) →
    Begins (length s₁.slots) c₁ → Begins (length s₂.slots) c₂ → Demand3 s₁ s₂ b₁ b₂ (c₁ ∷ cs₁) (c₂ ∷ cs₂)

-- a corollary (document 02, request 5): since no claim reaches an unscanned pixel, 22 is met by no call of such a list,
-- and what it leaves passes the opening checks
unfoldable pub NoneUnscanned : Type 0
NoneUnscanned = (s : State) (c : Call) (cs : List Call) → Begins (length s.slots) c →
    ((a : Answer) → Memᴰ a (answers s (c ∷ cs)) → a.number ≡ tile_unscanned → ⊥)
    × (opening (left s (c ∷ cs)).scan (left s (c ∷ cs)).slots ≡ accepted)
