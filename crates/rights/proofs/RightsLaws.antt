-- The offered call by lookup's answer.
--     rights_by_lookup                   `RightsByLookup`: the call rests on lookup's answer
--     rights_alike                       `RightsAlike`: it answers the same on all of the block that lookup names
--     rights_scanned                     `RightsScanned`: a yes is of a scanned pixel
--     rights_of_lookup, -asker, -answer   lookup's refusal; else 34; else the table, for the account that lookup answers
use mathlib.Core.Path.{◌≡◌, refl, ap, sym, ◌∙◌}
use mathlib.Core.Bool.{Bool, true, false}
use mathlib.Core.List.{List}
use Prim.Native.Nat.{ℕ, ◌^◌, ◌<◌}
use native.Mathlib.Omega.{arith}
use Rattle.refusal.specs.Refusal.{accepted}
use Rattle.refusal.specs.Checks.{or_else, unless}
use Rattle.refusal.proofs.CheckLaws.{else_on, else_off, else_inv, else_else, unless_on, unless_off, by_unless, unless_alike}
use Rattle.morton.specs.Morton.{morton}
use Rattle.bed.specs.declared.Scan.{Scan}
use Rattle.bed.specs.Places.{place_of}
use Rattle.checks.specs.Asked.{point_check, asker_check}
use Rattle.scan_check.specs.Opening.{opening}
use Rattle.scan_check.specs.Scanned.{scanned_check}
use Rattle.lookup.specs.declared.LookupAnswer.{LookupAnswer}
use Rattle.lookup.specs.Lookup.{lookup_check, lookup_of}
use Rattle.lookup.specs.Promises.{LookupAlike}
use Rattle.lookup.proofs.LookupLaws.{lookup_check_passed, lookup_of_number}
use Rattle.lookup.proofs.LookupPromises.{lookup_account, lookup_alike}
use Rattle.rights.specs.declared.RightAnswer.{RightAnswer}
use Rattle.table.specs.Table.{may_place}
use Rattle.table.specs.Load.{table_of}
use Rattle.rights.specs.Rights.{rights_check, rights_of}
use Rattle.rights.specs.Rests.{RightsByLookup, RightsAlike, RightsScanned}

module _ (scan : Scan) (slots : List ℕ) (c r p : ℕ) where
  abbrev point : ℕ
  point = point_check scan.order c r

  abbrev seen : ℕ
  seen = scanned_check scan (morton scan.order c r)

  -- the checks of lookup, then 34
  checks_grouped : or_else (lookup_check scan slots c r) (asker_check p) ≡ rights_check scan slots c r p
  unfolding lookup_check rights_check
  checks_grouped = else_else (opening scan slots) (or_else point seen) (asker_check p) ∙ ap (λ (x : ℕ). or_else (opening scan slots) x) (else_else point seen (asker_check p))

  same_checks : or_else (lookup_of scan slots c r).number (asker_check p) ≡ rights_check scan slots c r p
  same_checks = rw (lookup_of_number scan slots c r) checks_grouped

pub rights_by_lookup : RightsByLookup
unfolding RightsByLookup rights_of
rights_by_lookup table scan slots c r p = rw (same_checks scan slots c r p)
    (unless_alike (λ (a b : RightAnswer). a ≡ b) (rights_check scan slots c r p) (λ x. refl)
    (λ e. ap (λ (h : ℕ). record { number = accepted; yes = may_place (table_of table) p h }) (sym (lookup_account scan slots c r (else_inv _ _ (checks_grouped scan slots c r p ∙ e)).0))))

pub rights_alike : RightsAlike
unfolding RightsAlike RightsByLookup LookupAlike
rights_alike table scan slots c r c' r' p e i =
    rights_by_lookup table scan slots c' r' p ∙ rw ((lookup_alike scan slots c r c' r' e).1 i) (sym (rights_by_lookup table scan slots c r p))

pub rights_scanned : RightsScanned
unfolding RightsScanned rights_of
rights_scanned table scan slots c r p = by_unless
    (λ (a : RightAnswer). a.yes ≡ true → (c < 2 ^ scan.order) × (r < 2 ^ scan.order) × (place_of scan.kind scan.order (morton scan.order c r) < scan.pixels))
    (rights_check scan slots c r p) (λ x e. absurd (let z : ◌≡◌ {A = ℕ} 0 1 = cc in omega arith))
    (λ e y. let q = lookup_check_passed scan slots c r (else_inv _ _ (checks_grouped scan slots c r p ∙ e)).0 in (q.column, q.row, q.scanned))

module _ (table : List ℕ) (scan : Scan) (slots : List ℕ) (c r p : ℕ) (f : LookupAnswer) (is : f ≡ lookup_of scan slots c r) where
  by_found : rights_of table scan slots c r p ≡ unless (or_else f.number (asker_check p)) (λ number. record { number = number; yes = false }) (record { number = accepted; yes = may_place (table_of table) p f.account })
  unfolding RightsByLookup
  by_found = rw is (rights_by_lookup table scan slots c r p)

  pub rights_of_lookup : (f.number ≡ accepted → ⊥) → record { number = f.number; yes = false } ≡ rights_of table scan slots c r p
  rights_of_lookup h = sym (by_found ∙ rw (else_off f.number (asker_check p) h) (unless_off f.number _ _ h))

  module _ (x : ℕ) (asked : x ≡ asker_check p) (found : f.number ≡ accepted) where
    number : or_else f.number (asker_check p) ≡ x
    number = else_on f.number (asker_check p) found ∙ sym asked

    pub rights_of_asker : (x ≡ accepted → ⊥) → record { number = x; yes = false } ≡ rights_of table scan slots c r p
    rights_of_asker h = sym (by_found ∙ rw number (unless_off x _ _ h))

    pub rights_of_answer : x ≡ accepted → (b : Bool) → b ≡ may_place (table_of table) p f.account → record { number = accepted; yes = b } ≡ rights_of table scan slots c r p
    rights_of_answer h b e = sym (by_found ∙ unless_on _ _ _ (number ∙ h) ∙ rw (sym e))
