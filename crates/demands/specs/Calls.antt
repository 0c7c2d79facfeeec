-- Lists of calls (document 01, "The plain bed"): what they answer and leave, in slots and on the plain bed. Definitions
-- only.
--     Call              a fresh scan, a feed, a claim or a reading, with what it is handed besides record and slots
--     Answer            the refusal number or 0, and the count that a feed took
--     State             the record in use and the lent slots
--     step s c          one call on record and slots, by the definitions that the contracts of the code equate it with
--     plain_step m b c   one call on the plain bed, given the number m of slots
--     answers, left     what a list of calls answers, call by call, and what it leaves
--     plain_answers, plain_left   the same on the plain bed
--     Begins m c        c is a fresh scan or a reading that is accepted with m slots
use Rattle.std.specs.Prelude.{◌≡◌, List, [], ◌∷◌, ℕ, ◌^◌, ◌≤◌, leb}
use Rattle.refusal.specs.Refusal.{accepted, order_too_large}
use Rattle.refusal.specs.Checks.{must, unless, After}
use Rattle.tile.specs.Tile.{highest_order}
use Rattle.bed.specs.declared.Kind.{Kind}
use Rattle.bed.specs.declared.Kind.TheVariants.{Rows}
use Rattle.bed.specs.declared.Scan.{Scan}
use Rattle.bed.specs.Places.{scan_of}
use Rattle.bed.specs.Bed as bed
use Rattle.bed.specs.Bed.{Bed, bed_of, fresh_bed, feed_bed, claimed, claim_bed_check}
use Rattle.scan.specs.FreshScan.{Fresh, fresh_of}
use Rattle.scan.specs.Feed.{Fed, feed_of}
use Rattle.claim.specs.declared.ClaimAnswer.{ClaimAnswer}
use Rattle.claim.specs.Claim.{claim_of}
use Rattle.mapfile_read.specs.declared.ReadAnswer.{ReadAnswer}
use Rattle.mapfile_read.specs.Reader.{read_of, read_bed, file_check}

pub data Call : Type 0 where
  fresh : Kind → ℕ → Call
  feed : List ℕ → Call
  claim : ℕ → ℕ → ℕ → Call
  read : List ℕ → Call

pub record Answer : Type 0 where
  pub number : ℕ
  pub taken : ℕ

abbrev pub answer : ℕ → ℕ → Answer
answer r k = record { number = r; taken = k }

pub record State : Type 0 where
  pub scan : Scan
  pub slots : List ℕ

pub record Step : Type 0 where
  pub answer : Answer
  pub state : State

-- what is handed on: a feed's record always, that of any other call only where it is accepted
unfoldable pub after_fresh : Scan → After Fresh → Step
after_fresh c r = record {
  answer = answer r.answer.number 0;
  state = record { scan = unless r.answer.number (λ number. c) r.answer.scan; slots = r.storage };
}

unfoldable pub after_feed : After Fed → Step
after_feed r = record {
  answer = answer r.answer.number r.answer.taken;
  state = record { scan = r.answer.scan; slots = r.storage };
}

unfoldable pub after_claim : Scan → After ClaimAnswer → Step
after_claim c r = record {
  answer = answer r.answer.number 0;
  state = record {
    scan = unless r.answer.number (λ number. c)
        (scan_of c.kind c.order c.pixels r.answer.tiles);
    slots = r.storage;
  };
}

unfoldable pub after_read : Scan → After ReadAnswer → Step
after_read c r = record {
  answer = answer r.answer.number 0;
  state = record {
    scan = unless r.answer.number (λ number. c)
        (scan_of Rows r.answer.order (4 ^ r.answer.order) r.answer.tiles);
    slots = r.storage;
  };
}

unfoldable pub step : State → Call → Step
step s (fresh k n) = after_fresh s.scan (fresh_of k n s.slots)
step s (feed bytes) = after_feed (feed_of s.scan s.slots bytes)
step s (claim c k a) = after_claim s.scan (claim_of s.scan s.slots c k a)
step s (read bytes) = after_read s.scan (read_of bytes s.slots)

unfoldable pub answers : State → List Call → List Answer
answers s [] = []
answers s (c ∷ cs) = (step s c).answer ∷ answers (step s c).state cs

unfoldable pub left : State → List Call → State
left s [] = s
left s (c ∷ cs) = left (step s c).state cs

pub record PlainStep : Type 0 where
  pub answer : Answer
  pub bed : Bed

-- a refused call other than a feed changes nothing
abbrev pub plainly : Bed → ℕ → Bed → PlainStep
plainly b r next = record { answer = answer r 0; bed = unless r (λ number. b) next }

abbrev pub plain_fed : bed.BedFed → PlainStep
plain_fed r = record { answer = answer r.number r.taken; bed = r.bed }

abbrev pub claimed_bed : Bed → ℕ → ℕ → ℕ → Bed
claimed_bed b c k a = bed_of b.kind b.order b.scanned (claimed b.account c k a)

unfoldable pub plain_step : ℕ → Bed → Call → PlainStep
plain_step m b (fresh k n) = plainly b (must (leb n highest_order) order_too_large accepted) (fresh_bed k n)
plain_step m b (feed bytes) = plain_fed (feed_bed m b bytes)
plain_step m b (claim c k a) = plainly b (claim_bed_check m b c k a) (claimed_bed b c k a)
plain_step m b (read bytes) = plainly b (file_check m bytes) (read_bed bytes)

unfoldable pub plain_answers : ℕ → Bed → List Call → List Answer
plain_answers m b [] = []
plain_answers m b (c ∷ cs) = (plain_step m b c).answer ∷ plain_answers m (plain_step m b c).bed cs

unfoldable pub plain_left : ℕ → Bed → List Call → Bed
plain_left m b [] = b
plain_left m b (c ∷ cs) = plain_left m (plain_step m b c).bed cs

abbrev pub Begins : ℕ → Call → Type 0
Begins m (fresh k n) = n ≤ highest_order
Begins m (feed bytes) = ⊥
Begins m (claim c k a) = ⊥
Begins m (read bytes) = file_check m bytes ≡ accepted
