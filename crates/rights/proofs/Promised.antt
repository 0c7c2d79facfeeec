-- What the rights call promises of tables, proved.
--     rights_number, -own, -rise, -loaded, -old    `RightsNumber`, `RightsOwn`, `RightsRise`, `RightsLoaded`, `RightsOld`
use mathlib.Core.Path.{◌≡◌, refl, ap, sym, ◌∙◌}
use mathlib.Core.Bool.{true, false}
use mathlib.Core.List.{List}
use Prim.Native.Nat.{ℕ, ◌≤◌, ◌<◌}
use native.Mathlib.Omega.{arith}
use lib.ListN.{take, drop}
use Rattle.basics.proofs.Tests.{told_true, test_true, test_leb, test_and}
use Rattle.refusal.specs.Refusal.{accepted, asker_invalid}
use Rattle.refusal.specs.Checks.{or_else}
use Rattle.refusal.proofs.CheckLaws.{must_pass, else_on, else_inv, unless_on, unless_number, by_unless}
use Rattle.morton.specs.Morton.{morton}
use Rattle.tile.specs.Tile.{highest_account}
use Rattle.tile.specs.Slots.{tiles_in}
use Rattle.quadtree.proofs.Shown.{account_at_low}
use Rattle.bed.specs.declared.Scan.{Scan}
use Rattle.checks.specs.Asked.{asker_check}
use Rattle.table.specs.Table.{class_of, row_of, pixel_kind, says, may_place, old_table}
use Rattle.table.specs.Load.{table_of, load_of}
use Rattle.table.proofs.Promised.{behind_yes, leaves, counts, old_passes}
use Rattle.table.proofs.CountsLaws.{table_of_loaded}
use Rattle.table.proofs.RiseLaws.{table_of_sound, may_own, may_rise}
use Rattle.lookup.specs.declared.LookupAnswer.{LookupAnswer}
use Rattle.lookup.specs.Lookup.{lookup_check, lookup_of}
use Rattle.lookup.proofs.LookupLaws.{lookup_of_number}
use Rattle.lookup.proofs.LookupPromises.{lookup_account}
use Rattle.rights.specs.declared.RightAnswer.{RightAnswer}
use Rattle.rights.specs.Rights.{rights_of}
use Rattle.rights.specs.Rests.{RightsByLookup}
use Rattle.rights.specs.Promises.{answered, RightsNumber, RightsOwn, RightsRise, RightsLoaded, RightsOld}
use Rattle.rights.proofs.RightsLaws.{rights_by_lookup}

module _ (table : List ℕ) (scan : Scan) (slots : List ℕ) (c r : ℕ) where
  abbrev holder : ℕ
  holder = (lookup_of scan slots c r).account

  -- the checks of lookup, then 34
  abbrev checks : ℕ → ℕ
  checks p = or_else (lookup_of scan slots c r).number (asker_check p)

  pub by_table : (p : ℕ) → checks p ≡ accepted → rights_of table scan slots c r p ≡ answered accepted (may_place (table_of table) p holder)
  unfolding RightsByLookup
  by_table p e = rights_by_lookup table scan slots c r p ∙ unless_on (checks p) (λ number. record { number = number; yes = false }) _ e

  pub number_grouped : (p : ℕ) → (rights_of table scan slots c r p).number ≡ checks p
  unfolding RightsByLookup
  number_grouped p = ap (λ (a : RightAnswer). a.number) (rights_by_lookup table scan slots c r p) ∙ unless_number (λ (a : RightAnswer). a.number) (checks p) (λ n. refl) refl

  -- a yes is of an accepted call
  said : (p : ℕ) → (rights_of table scan slots c r p).yes ≡ true → (checks p ≡ accepted) × (may_place (table_of table) p holder ≡ true)
  unfolding RightsByLookup
  said p y = by_unless (λ (a : RightAnswer). a.yes ≡ true → (checks p ≡ accepted) × (may_place (table_of table) p holder ≡ true))
      (checks p) (λ x e. absurd (let z : ◌≡◌ {A = ℕ} 0 1 = cc in omega arith)) (λ e h. (e, h)) (sym (ap (λ (a : RightAnswer). a.yes) (rights_by_lookup table scan slots c r p)) ∙ y)

  -- somebody's pixel was looked up, and its account may ask
  found : 0 < holder → (lookup_of scan slots c r).number ≡ accepted
  unfolding lookup_of
  found = by_unless (λ (f : LookupAnswer). 0 < f.account → f.number ≡ accepted) (lookup_check scan slots c r) (λ x h. absurd (omega arith)) (λ e h. refl)

  holder_low : 0 < holder → holder ≤ highest_account
  unfolding tiles_in
  holder_low h = rw (lookup_account scan slots c r (sym (lookup_of_number scan slots c r) ∙ found h)) (account_at_low (take scan.tiles slots) (morton scan.order c r))

asks : (p : ℕ) → 0 < p → p ≤ highest_account → asker_check p ≡ accepted
unfolding asker_check
asks p h l = must_pass asker_invalid (test_and (test_leb 1 p) (test_leb p highest_account)) (h, l) refl

pub rights_number : RightsNumber
unfolding RightsNumber
rights_number table other scan slots c r p = number_grouped table scan slots c r p ∙ sym (number_grouped other scan slots c r p)

pub rights_own : RightsOwn
unfolding RightsOwn
rights_own table scan slots c r p h e =
    let g : 0 < (lookup_of scan slots c r).account = omega (arith, e) in
    let l : p ≤ highest_account = rw e at (holder_low table scan slots c r g) in
    by_table table scan slots c r p (else_on _ _ (found table scan slots c r g) ∙ asks p (omega arith) l) ∙ ap (answered accepted) (may_own (table_of_sound table) p _ e)

pub rights_rise : RightsRise
unfolding RightsRise
rights_rise table scan slots c r p q l a n y =
    let s = said table scan slots c r p y in
    let w : asker_check q ≡ accepted = omega (arith, a) in
    let e : or_else (lookup_of scan slots c r).number (asker_check q) ≡ accepted = else_on _ _ (else_inv _ _ s.0).0 ∙ w in
    by_table table scan slots c r q e
    ∙ ap (answered accepted) (may_rise (table_of_sound table) p q (lookup_of scan slots c r).account (omega arith) (λ h. omega (arith, n, h)) s.1)

module _ (file table : List ℕ) (scan : Scan) (slots : List ℕ) (c r p : ℕ) (e : (load_of file table).answer ≡ accepted) where
  -- the table left counts, and is the file's
  loaded : table_of (load_of file table).storage ≡ drop 1 file
  loaded = counts.loadable (load_of file table).storage (file, table, e, refl) ∙ leaves file table e

  by_file : (rights_of (load_of file table).storage scan slots c r p).number ≡ accepted →
      (rights_of (load_of file table).storage scan slots c r p).yes ≡ says (drop 1 file) (row_of (class_of p)) (pixel_kind p (lookup_of scan slots c r).account)
  unfolding may_place
  by_file h =
      let t = (load_of file table).storage in
      let k = sym (number_grouped t scan slots c r p) ∙ h in
      ap (λ (a : RightAnswer). a.yes) (by_table t scan slots c r p k) ∙ ap (λ (u : List ℕ). may_place u p (lookup_of scan slots c r).account) loaded

pub rights_loaded : RightsLoaded
unfolding RightsLoaded
rights_loaded file table scan slots c r p e h =
    let y = behind_yes file (row_of (class_of p)) (pixel_kind p (lookup_of scan slots c r).account) in
    let b = by_file file table scan slots c r p e (omega (arith, h)) in
    (λ q. told_true y (sym b ∙ q), λ q. b ∙ test_true y q)

pub rights_old : RightsOld
unfolding RightsOld rights_of
rights_old table scan slots c r p n = rw (counts.others table n ∙ sym (table_of_loaded old_table old_passes))
