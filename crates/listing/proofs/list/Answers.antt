-- By how far the input is taken; the list that the feed leaves fits the slots.
use Rattle.std.proofs.Common.{◌∙◌, sym, ap, arith, ℕ, List, ◌∷◌, replicate}
use lib.Seq.{length-take-le}
use Rattle.bed.specs.declared.Kind.TheVariants.{Rows}
use Rattle.listing.specs.Listing.{listed_slots, listed_in, list_of}
use Rattle.listing.proofs.LineLaws.{lines_taken}
use Rattle.listing.proofs.ScannedLaws.{fed_room, fresh_never, list_empty, list_large, list_scanned}
use Rattle.listing.proofs.list.Goals as goal

pub returns-in_default : goal.returns-in_default
returns-in_default c = rw c.without_bed.ensures at c.write.ensures ∙ list_empty c.args.input.now c.args.out.now c.in_default.ensures.cases

pub returns-then-order-gt-LISTED_ORDER : goal.returns-then-order-gt-LISTED_ORDER
returns-then-order-gt-LISTED_ORDER c =
    let out = c.args.out.now in
    let accounts = c.in-Some.accounts.now in
    let i = ap (λ (n : ℕ). n ∷ accounts) c.from-order.ensures ∙ sym c.in-Some.ensures.cases.0 in
    rw c.without_bed-then-order-gt-LISTED_ORDER.ensures at c.write-then-order-gt-LISTED_ORDER.ensures
    ∙ list_large c.from-order.result accounts out (omega (arith, c.if-order-gt-LISTED_ORDER.true))
    ∙ ap (λ (input : List ℕ). list_of input out) i

pub returns : goal.returns
returns c =
    let out = c.args.out.now in
    let accounts = c.in-Some.accounts.now in
    let fed = c.feed-end.result in
    let left = c.feed-end.new.slots in
    let i = ap (λ (n : ℕ). n ∷ accounts) c.from-order.ensures ∙ sym c.in-Some.ensures.cases.0 in
    let h = fed_room Rows c.from-order.result (replicate listed_slots 0) accounts _ _ _ _ c.in_ok-fresh.ensures c.feed-end.ensures in
    rw c.said.ensures at c.write-2.ensures
    ∙ ap (λ (bytes : List ℕ). listed_in bytes out) (lines_taken fed.scan.order fed.scan.tiles left _ fed.taken (omega (arith, h.0, h.1)))
    ∙ list_scanned c.from-order.result accounts out _ _ _ _ (omega (arith, c.if-order-gt-LISTED_ORDER.false)) c.in_ok-fresh.ensures c.feed-end.ensures
    ∙ ap (λ (input : List ℕ). list_of input out) i

pub slice_bounds-slots-end : goal.slice_bounds-slots-end
slice_bounds-slots-end c =
    let h = fed_room Rows c.from-order.result (replicate listed_slots 0) c.in-Some.accounts.now _ _ _ _ c.in_ok-fresh.ensures c.feed-end.ensures in
    omega (arith, h.0, h.1)

pub slice_bounds-bed-end : goal.slice_bounds-bed-end
slice_bounds-bed-end c =
    let h = fed_room Rows c.from-order.result (replicate listed_slots 0) c.in-Some.accounts.now _ _ _ _ c.in_ok-fresh.ensures c.feed-end.ensures in
    sym (length-take-le c.feed-end.result.scan.tiles c.feed-end.new.slots (omega (arith, h.0, h.1)))

pub returns-in_err-fresh : goal.returns-in_err-fresh
returns-in_err-fresh c = fresh_never Rows c.from-order.result _ _ c.in_err-fresh.field-0.0 (omega (arith, c.if-order-gt-LISTED_ORDER.false)) c.in_err-fresh.ensures
