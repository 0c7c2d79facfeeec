-- The condition of 43, whatever the order of entries and tiles.
--     Right ts es   each entry has the pixels of its account; an account with tiles has one entry, and no other has one
--     test_good     `roster_good` tests it
--     listed_some   an entry is listed under its account
use mathlib.Core.Path.{◌≡◌, refl, ap, sym, ◌∙◌}
use mathlib.Core.Bool.{Bool, ◌&&◌}
use mathlib.Core.List.Memᴰ
use mathlib.Core.List.{List, [], ◌∷◌, Memᴰ}
use Prim.Native.Nat.{ℕ, ◌<◌}
use native.Mathlib.Decide.{dec_lt}
use native.Mathlib.Omega.{arith}
use lib.Dec.{ltb}
use Rattle.basics.specs.Choice.{if}
use Rattle.basics.proofs.Tests.{Test, holds, fails, test_leb, test_eqb, test_and, test_map}
use Rattle.basics.proofs.ChoiceLaws.{if_yes, if_no}
use Rattle.tile.specs.declared.Tile.{Tile}
use Rattle.quadtree.specs.Raster.{◌∈◌}
use Rattle.mapfile_roster.specs.declared.Entry.{Entry}
use Rattle.mapfile_roster.specs.Roster.{covered, listed, entry_good, entries_good, tiles_listed, roster_good}
use Rattle.mapfile_roster.proofs.CoveredLaws.{covered_some, covered_none}

pub record Right (ts : List Tile) (es : List Entry) : Type 0 where
  pub pixels : (e : Entry) → Memᴰ e es → e.pixels ≡ covered e.account ts
  pub once : (a : ℕ) → listed a es ≡ if (ltb 0 (covered a ts)) 1 0

-- a fact of the first of a list and of those behind it is one of them all
members : {A : Type 0} {P : A → Type 0} {x : A} {xs : List A} → P x → ((y : A) → Memᴰ y xs → P y) → (y : A) → Memᴰ y (x ∷ xs) → P y
members {P = P} p f y (Memᴰ.head e) = rw e p
members p f y (Memᴰ.tail m) = f y m

test_members : {A : Type 0} {P : A → Type 0} {x : A} {xs : List A} {a b : Bool} → Test (P x) a → Test ((y : A) → Memᴰ y xs → P y) b → Test ((y : A) → Memᴰ y (x ∷ xs) → P y) (a && b)
test_members {x = x} s t = test_map (λ p. members p.0 p.1) (λ f. (f x (Memᴰ.head refl), λ y m. f y (Memᴰ.tail m))) (test_and s t)

module _ (ts : List Tile) (all : List Entry) where
  abbrev EntryRight : Entry → Type 0
  EntryRight e = (0 < covered e.account ts) × ((e.pixels ≡ covered e.account ts) × (listed e.account all ≡ 1))

  test_entries : (es : List Entry) → Test ((e : Entry) → Memᴰ e es → EntryRight e) (entries_good ts all es)
  unfolding entries_good entry_good
  test_entries [] = holds (λ e m. absurd (Memᴰ.not-nil m))
  test_entries (e ∷ es) = test_members
      (test_and (test_leb 1 (covered e.account ts)) (test_and (test_eqb e.pixels (covered e.account ts)) (test_eqb (listed e.account all) 1)))
      (test_entries es)

test_listed : (all : List Entry) (ts : List Tile) → Test ((t : Tile) → t ∈ ts → 0 < listed t.account all) (tiles_listed all ts)
unfolding tiles_listed
test_listed all [] = holds (λ t m. absurd (Memᴰ.not-nil m))
test_listed all (t ∷ ts) = test_members (test_leb 1 (listed t.account all)) (test_listed all ts)

pub listed_some : (es : List Entry) (e : Entry) → Memᴰ e es → 0 < listed e.account es
unfolding listed
listed_some (x ∷ es) e (Memᴰ.head q) = omega (arith, if_yes {A = ℕ} 1 0 (test_eqb x.account e.account) (ap (λ (y : Entry). y.account) (sym q)))
listed_some (x ∷ es) e (Memᴰ.tail m) = omega (arith, listed_some es e m)
listed_some [] e x' = elim x' [ ]

-- an account without entries is not listed
listed_none : (a : ℕ) (es : List Entry) → ((e : Entry) → Memᴰ e es → e.account ≡ a → ⊥) → listed a es ≡ 0
unfolding listed
listed_none a [] h = refl
listed_none a (e ∷ es) h =
    omega (arith, if_no {A = ℕ} 1 0 (test_eqb e.account a) (h e (Memᴰ.head refl)), listed_none a es (λ x m. h x (Memᴰ.tail m)))

module _ (ts : List Tile) (es : List Entry) where
  module _ (entries : (e : Entry) → Memᴰ e es → EntryRight ts es e) (tiles : (t : Tile) → t ∈ ts → 0 < listed t.account es) where
    -- an account with tiles is listed, and each entry is its account's only one
    right_tiled : (a : ℕ) {b : Bool} → Test (listed a es ≡ 1) b → 0 < covered a ts → listed a es ≡ 1
    right_tiled a (holds h) c = h
    right_tiled a (fails h) c =
        let z : listed a es ≡ 0 = listed_none a es (λ e m q. h (rw q at (entries e m).1.1)) in
        absurd (omega (arith, covered_none {a = a} ts (λ t m q. omega (arith, rw q at (tiles t m)))))

    entries_right_lem : Right ts es
    entries_right_lem = record {
      pixels = λ e m. (entries e m).1.0;
      once = λ a. elim (dec_lt 0 (covered a ts)) [
        | yes c ↦ right_tiled a (test_eqb (listed a es) 1) c ∙ sym (if_yes 1 0 (test_leb 1 (covered a ts)) c)
        | no c ↦ listed_none a es (λ e m q. c (rw q at (entries e m).0)) ∙ sym (if_no 1 0 (test_leb 1 (covered a ts)) c)
      ];
    }

  module _ (r : Right ts es) where
    right_entries : (e : Entry) → Memᴰ e es → EntryRight ts es e
    right_entries e m = elim (dec_lt 0 (covered e.account ts)) [
      | yes c ↦ (c, (r.pixels e m, r.once e.account ∙ if_yes 1 0 (test_leb 1 (covered e.account ts)) c))
      | no c ↦ absurd (omega (arith, listed_some es e m, r.once e.account, if_no {A = ℕ} 1 0 (test_leb 1 (covered e.account ts)) c))
    ]

    right_tiles : (t : Tile) → t ∈ ts → 0 < listed t.account es
    right_tiles t m = omega (arith, r.once t.account, if_yes {A = ℕ} 1 0 (test_leb 1 (covered t.account ts)) (covered_some ts m))

  pub test_good : Test (Right ts es) (roster_good ts es)
  unfolding roster_good
  test_good = test_map (λ p. entries_right_lem p.0 p.1) (λ r. (right_entries r, right_tiles r)) (test_and (test_entries ts es es) (test_listed es ts))
