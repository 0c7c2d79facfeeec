-- An answer with a record's numbers in place of the record is the definition's, by the answer with the record.
--     fresh_exported, feed_exported   of a fresh scan, of a feed
use mathlib.Core.Path.{◌≡◌, ap, ◌∙◌}
use mathlib.Core.List.{List}
use Prim.Native.Nat.{ℕ}
use Rattle.refusal.specs.Checks.{After}
use Rattle.bed.specs.Kinds.{kind_of, kind_number}
use Rattle.bed.specs.declared.Kind.{Kind}
use Rattle.bed.specs.declared.Scan.{Scan}
use Rattle.scan.specs.FreshScan.{Fresh, fresh_of}
use Rattle.scan.specs.Feed.{Fed, feed_of}
use Rattle.kingletbed.specs.declared.FreshAnswer.{FreshAnswer}
use Rattle.kingletbed.specs.declared.FeedAnswer.{FeedAnswer}
use Rattle.kingletbed.specs.Exports.{fresh_numbers, fed_numbers}

pub fresh_exported : (x n : ℕ) (s t : List ℕ) (k : Kind) (r : Fresh) (q : ℕ) → k ≡ kind_of x → ◌≡◌ {A = After Fresh} (record { answer = r; storage = t }) (fresh_of k n s) → q ≡ kind_number r.scan.kind →
    ◌≡◌ {A = After FreshAnswer} (record { answer = record { number = r.number; kind = q; order = r.scan.order; pixels = r.scan.pixels; tiles = r.scan.tiles }; storage = t }) (fresh_numbers (fresh_of (kind_of x) n s))
unfolding fresh_numbers
fresh_exported x n s t k r q ek e eq =
    ap {B = After FreshAnswer} (λ y. record { answer = record { number = r.number; kind = y; order = r.scan.order; pixels = r.scan.pixels; tiles = r.scan.tiles }; storage = t }) eq
    ∙ ap fresh_numbers (e ∙ ap (λ (y : Kind). fresh_of y n s) ek)

pub feed_exported : (c d : Scan) (s t accounts : List ℕ) (r : Fed) (q : ℕ) → c ≡ d → ◌≡◌ {A = After Fed} (record { answer = r; storage = t }) (feed_of c s accounts) → q ≡ kind_number r.scan.kind →
    ◌≡◌ {A = After FeedAnswer} (record { answer = record { number = r.number; taken = r.taken; kind = q; order = r.scan.order; pixels = r.scan.pixels; tiles = r.scan.tiles }; storage = t }) (fed_numbers (feed_of d s accounts))
unfolding fed_numbers
feed_exported c d s t accounts r q ec e eq =
    ap {B = After FeedAnswer} (λ y. record { answer = record { number = r.number; taken = r.taken; kind = y; order = r.scan.order; pixels = r.scan.pixels; tiles = r.scan.tiles }; storage = t }) eq
    ∙ ap fed_numbers (e ∙ ap (λ (y : Scan). feed_of y s accounts) ec)
