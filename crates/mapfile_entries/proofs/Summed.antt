-- Rising entries are the roster of the tiles exactly if each has the pixels of its account, of which there are some, and
-- together they have those of all tiles: an account that is missing would leave its tiles out of the sum.
--     good_summed   of rising entries, `roster_good` is that test
use mathlib.Core.Path.{◌≡◌, refl, sym}
use mathlib.Core.Bool.{Bool, true, false, ◌&&◌}
use mathlib.Core.List.{List, [], ◌∷◌, Memᴰ}
use Prim.Native.Nat.{ℕ, ◌+◌, ◌^◌, ◌≤◌}
use native.Mathlib.Decide.{dec_le}
use native.Mathlib.Omega.{arith}
use lib.Dec.{ltb, eqb}
use borrow.Author.Tests.{eq-eqb}
use Rattle.basics.proofs.Tests.{Test, holds, fails, test_leb, test_eqb, test_and, test_map, test_alike, told_true}
use Rattle.basics.proofs.ChoiceLaws.{if_yes, if_no}
use Rattle.tile.specs.declared.Tile.{Tile}
use Rattle.quadtree.proofs.Alignment.{area_pos}
use Rattle.mapfile_roster.specs.declared.Entry.{Entry}
use Rattle.mapfile_roster.specs.Roster.{covered, listed, entry_good, entries_good, tiles_listed, roster_good}
use Rattle.mapfile_roster.proofs.RosterLaws.{ByAccount}
use Rattle.mapfile_roster.proofs.GoodLaws.{listed_some}
use Rattle.mapfile_roster.proofs.RisingLaws.{listed_few}
use Rattle.mapfile_entries.specs.Pixels.{area_of, pixels_in, entry_right, entries_right}

-- the pixels of the entries' accounts
unfoldable pixels_of : List Tile → List Entry → ℕ
pixels_of ts [] = 0
pixels_of ts (e ∷ es) = covered e.account ts + pixels_of ts es

-- no tiles have no pixels
pixels_none : (es : List Entry) → pixels_of [] es ≡ 0
unfolding pixels_of covered
pixels_none [] = refl
pixels_none (e ∷ es) = omega (arith, pixels_none es)

-- what a tile adds: nothing where its account has no entry, its pixels where it has one
module _ (t : Tile) (ts : List Tile) where
  pixels_off : (es : List Entry) → listed t.account es ≡ 0 → pixels_of (t ∷ ts) es ≡ pixels_of ts es
  unfolding pixels_of covered listed
  pixels_off [] h = refl
  pixels_off (e ∷ es) h =
      let other : e.account ≡ t.account → ⊥ = λ q. omega (arith, h, if_yes {A = ℕ} 1 0 (test_eqb e.account t.account) q) in
      omega (arith, if_no (4 ^ t.size) 0 (test_eqb t.account e.account) (λ q. other (sym q)), pixels_off es (omega (arith, h)))

  pixels_one : (e : Entry) (es : List Entry) {b : Bool} → Test (e.account ≡ t.account) b → listed t.account (e ∷ es) ≡ 1 →
      (listed t.account es ≡ 1 → pixels_of (t ∷ ts) es ≡ 4 ^ t.size + pixels_of ts es) → pixels_of (t ∷ ts) (e ∷ es) ≡ 4 ^ t.size + pixels_of ts (e ∷ es)
  unfolding pixels_of covered listed
  pixels_one e es (holds q) h r =
      let l = if_yes {A = ℕ} 1 0 (test_eqb e.account t.account) q in
      omega (arith, if_yes (4 ^ t.size) 0 (test_eqb t.account e.account) (sym q), pixels_off es (omega (arith, h, l)))
  pixels_one e es (fails q) h r =
      let l = if_no {A = ℕ} 1 0 (test_eqb e.account t.account) q in
      omega (arith, if_no (4 ^ t.size) 0 (test_eqb t.account e.account) (λ k. q (sym k)), r (omega (arith, h, l)))

  pixels_on : (es : List Entry) → listed t.account es ≡ 1 → pixels_of (t ∷ ts) es ≡ 4 ^ t.size + pixels_of ts es
  unfolding listed
  pixels_on [] h = absurd (omega arith)
  pixels_on (e ∷ es) h = pixels_one e es (test_eqb e.account t.account) h (pixels_on es)

module _ (es : List Entry) (few : (a : ℕ) → listed a es ≤ 1) where
  pixels_few : (ts : List Tile) → pixels_of ts es ≤ area_of ts
  unfolding area_of
  pixels_few [] = omega (arith, pixels_none es)
  pixels_few (t ∷ ts) = elim (dec_le 1 (listed t.account es)) [
    | yes h ↦ omega (arith, pixels_on t ts es (omega (arith, few t.account)), pixels_few ts)
    | no h ↦ omega (arith, pixels_off t ts es (omega arith), pixels_few ts)
  ]

  -- a tile more: its account is listed, and the rest is summed
  sum_on : (t : Tile) (ts : List Tile) → (1 ≤ listed t.account es) × (pixels_of ts es ≡ area_of ts) → pixels_of (t ∷ ts) es ≡ area_of (t ∷ ts)
  unfolding area_of
  sum_on t ts p = omega (arith, pixels_on t ts es (omega (arith, p.0, few t.account)), p.1)

  sum_back : (t : Tile) (ts : List Tile) → pixels_of (t ∷ ts) es ≡ area_of (t ∷ ts) → (1 ≤ listed t.account es) × (pixels_of ts es ≡ area_of ts)
  unfolding area_of
  sum_back t ts e = elim (dec_le 1 (listed t.account es)) [
    | yes h ↦ (h, omega (arith, pixels_on t ts es (omega (arith, few t.account)), e))
    | no h ↦ absurd (omega (arith, pixels_off t ts es (omega arith), pixels_few ts, area_pos t.size, e))
  ]

  test_listed : (ts : List Tile) → Test (pixels_of ts es ≡ area_of ts) (tiles_listed es ts)
  unfolding area_of tiles_listed
  test_listed [] = holds (pixels_none es)
  test_listed (t ∷ ts) = test_map (sum_on t ts) (sum_back t ts) (test_and (test_leb 1 (listed t.account es)) (test_listed ts))

and_inv : (a b : Bool) → (a && b) ≡ true → (a ≡ true) × (b ≡ true)
and_inv true b e = (refl, e)
and_inv false b e = absurd (let z : ◌≡◌ {A = ℕ} 0 1 = cc in omega arith)

and_turn : (a b : Bool) → (a && (b && true)) ≡ (a && b)
and_turn true true = refl
and_turn true false = refl
and_turn false b = refl

and_swap : (a b c : Bool) → (a ≡ true → b ≡ c) → (a && b) ≡ (c && a)
and_swap true true c h = let e : true ≡ c = h refl in rw (sym e)
and_swap true false c h = let e : false ≡ c = h refl in rw (sym e)
and_swap false b true h = refl
and_swap false b false h = refl

module _ (ts : List Tile) where
  good_right : (all es : List Entry) → ((e : Entry) → Memᴰ e es → listed e.account all ≡ 1) → entries_good ts all es ≡ entries_right ts es
  unfolding entries_good entry_good entries_right entry_right
  good_right all [] h = refl
  good_right all (e ∷ es) h =
      rw (
        eq-eqb (listed e.account all) 1 (h e (Memᴰ.head refl)),
        and_turn (ltb 0 (covered e.account ts)) (eqb e.pixels (covered e.account ts)),
        good_right all es (λ x m. h x (Memᴰ.tail m)),
      )

  -- entries that are right have the pixels of their accounts
  right_pixels : (es : List Entry) → entries_right ts es ≡ true → pixels_in es ≡ pixels_of ts es
  unfolding entries_right entry_right pixels_in pixels_of
  right_pixels [] h = refl
  right_pixels (e ∷ es) h =
      let a = and_inv (entry_right ts e) (entries_right ts es) h in
      let b = and_inv (ltb 0 (covered e.account ts)) (eqb e.pixels (covered e.account ts)) a.0 in
      omega (arith, told_true (test_eqb e.pixels (covered e.account ts)) b.1, right_pixels es a.1)

  pub good_summed : {lo : ℕ} (es : List Entry) → ByAccount lo es → roster_good ts es ≡ (eqb (pixels_in es) (area_of ts) && entries_right ts es)
  unfolding roster_good
  good_summed es r =
      rw (
        good_right es es (λ e m. omega (arith, listed_some es e m, listed_few e.account r)),
        test_alike (test_listed es (λ a. listed_few a r) ts) (test_eqb (pixels_of ts es) (area_of ts)) (λ e. e) (λ e. e),
      ) (and_swap (entries_right ts es) (eqb (pixels_of ts es) (area_of ts)) (eqb (pixels_in es) (area_of ts)) (λ h. rw (right_pixels es h)))
