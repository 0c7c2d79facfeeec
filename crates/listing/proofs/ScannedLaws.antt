-- What a fresh row scan, fed once, leaves: the listing of it, and that its list fits the slots.
--     fed_room       its list fits the slots
--     fresh_of_accepted   a fresh scan of an order that is none too large
--     fresh_never    an order that is listed is not refused
--     list_empty, list_large, list_scanned   the offered call, by how far its input is taken
use mathlib.Core.Path.{◌≡◌, refl, ap, sym, ◌∙◌}
use mathlib.Core.List.{List, [], ◌∷◌}
use Prim.Native.Nat.{ℕ, ◌≤◌, ◌<◌}
use native.Mathlib.Omega.{arith}
use lib.ListN.{length, replicate}
use Rattle.basics.proofs.Tests.{test_leb}
use Rattle.basics.proofs.ChoiceLaws.{if_yes, if_no}
use Rattle.refusal.specs.Refusal.{accepted, order_too_large, file_cut_short}
use Rattle.refusal.specs.Checks.{After}
use Rattle.refusal.specs.declared.Refusal.{Refusal}
use Rattle.refusal.proofs.CheckLaws.{must_on, unless_on}
use Rattle.refusal.proofs.RefusedLaws.{number_some}
use Rattle.tile.specs.Tile.{highest_order}
use Rattle.std.specs.Prelude.{Err}
use Rattle.bed.specs.declared.Kind.{Kind}
use Rattle.bed.specs.declared.Kind.TheVariants.{Rows}
use Rattle.bed.specs.Places.{scan_of}
use Rattle.scan.specs.FreshScan.{Fresh, fresh_answer, fresh_of}
use Rattle.scan.specs.Feed.{Fed, feed_of}
use Rattle.scan.proofs.Feeds.{fresh_of_blank, feed_of_room}
use Rattle.listing.specs.Listing.{stop_line, scan_lines, listed_order, listed_slots, fed_listing, listing, listed_in, list_of}

module _ (k : Kind) (n : ℕ) (slots accounts : List ℕ) (f : Fresh) (half : List ℕ) (g : Fed) (left : List ℕ)
    (e : ◌≡◌ {A = After Fresh} (record { answer = f; storage = half }) (fresh_of k n slots)) (d : ◌≡◌ {A = After Fed} (record { answer = g; storage = left }) (feed_of f.scan half accounts)) where
  fed_is : feed_of (fresh_of k n slots).answer.scan (fresh_of k n slots).storage accounts ≡ record { answer = g; storage = left }
  fed_is = rw (← e) (sym d)

  pub fed_room : (g.scan.tiles ≤ length slots) × (length left ≡ length slots)
  fed_room =
      let b = fresh_of_blank k n slots in
      let r = feed_of_room (fresh_of k n slots).answer.scan (fresh_of k n slots).storage accounts b.0 in
      let q : (g.scan.tiles ≤ length (fresh_of k n slots).storage) × (length left ≡ length (fresh_of k n slots).storage) = rw fed_is at r in
      (omega (arith, q.0, b.1), q.1 ∙ b.1)

pub fresh_of_accepted : (k : Kind) (n : ℕ) (slots : List ℕ) → n ≤ highest_order →
    fresh_of k n slots ≡ record { answer = record { number = accepted; scan = scan_of k n 0 0 }; storage = replicate (length slots) 0 }
unfolding fresh_of
fresh_of_accepted k n slots h = unless_on _ _ _ (must_on order_too_large accepted (test_leb n highest_order) h)

-- an order that is listed is not refused
pub fresh_never : {A : Type 0} (k : Kind) (n : ℕ) (slots half : List ℕ) (r : Refusal) → n ≤ listed_order →
    ◌≡◌ {A = After Fresh} (record { answer = fresh_answer k (Err r); storage = half }) (fresh_of k n slots) → A
fresh_never k n slots half r l e =
    let p = ap (λ (x : After Fresh). x.answer.number) (e ∙ fresh_of_accepted k n slots (omega arith)) in
    absurd (omega (arith, number_some r, p))

pub list_empty : (input out : List ℕ) → length input ≡ 0 → listed_in (stop_line file_cut_short 0) out ≡ list_of input out
unfolding listing
list_empty [] out h = refl
list_empty (n ∷ accounts) out h = absurd (omega arith)

pub list_large : (n : ℕ) (accounts out : List ℕ) → listed_order < n → listed_in (stop_line order_too_large 0) out ≡ list_of (n ∷ accounts) out
unfolding listing
list_large n accounts out g = ap (λ (bytes : List ℕ). listed_in bytes out) (sym (if_no _ _ (test_leb n listed_order) (λ l. omega arith)))

pub list_scanned : (n : ℕ) (accounts out : List ℕ) (f : Fresh) (half : List ℕ) (g : Fed) (left : List ℕ) → n ≤ listed_order →
    ◌≡◌ {A = After Fresh} (record { answer = f; storage = half }) (fresh_of Rows n (replicate listed_slots 0)) →
    ◌≡◌ {A = After Fed} (record { answer = g; storage = left }) (feed_of f.scan half accounts) →
    listed_in (scan_lines g.scan.order g.scan.tiles left g.number g.taken) out ≡ list_of (n ∷ accounts) out
unfolding listing fed_listing
list_scanned n accounts out f half g left l e d =
    ap (λ (bytes : List ℕ). listed_in bytes out)
    (ap fed_listing (sym (fed_is Rows n (replicate listed_slots 0) accounts f half g left e d)) ∙ sym (if_yes _ _ (test_leb n listed_order) l))
