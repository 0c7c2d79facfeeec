-- Laws of entries whose accounts rise.
--     listed_ahead   an account below the first one has no entry
--     listed_few     no account has more than one
--     rising_same    two such lists with entries of the same accounts are one, where the pixels go by the account
--     roster_only    so entries that are the roster of a valid list are the list that the writer has
use mathlib.Core.Path.{◌≡◌, refl, ap, sym, ◌∙◌}
use mathlib.Core.List.{List, [], ◌∷◌, Memᴰ}
use Prim.Native.Nat.{ℕ, suc, ◌≤◌, ◌<◌}
use native.Mathlib.Decide.{dec_le}
use native.Mathlib.Omega.{arith}
use lib.Dec.{eqb}
use Rattle.basics.specs.Choice.{if}
use Rattle.basics.proofs.Tests.{test_eqb, told_true}
use Rattle.basics.proofs.ChoiceLaws.{if_yes, if_no}
use Rattle.tile.specs.declared.Tile.{Tile}
use Rattle.tile.specs.Tile.{highest_account}
use Rattle.quadtree.specs.Raster.{◌∈◌}
use Rattle.quadtree.specs.Valid.{Valid}
use Rattle.mapfile_roster.specs.declared.Entry.{Entry}
use Rattle.mapfile_roster.specs.Roster.{covered, roster_of, listed}
use Rattle.mapfile_roster.proofs.RosterLaws.{ByAccount, end, link, roster_of_rising, roster_of_good}
use Rattle.mapfile_roster.proofs.GoodLaws.{Right, test_good, listed_some}

pub listed_ahead : (a : ℕ) {lo : ℕ} {es : List Entry} → ByAccount lo es → a < lo → listed a es ≡ 0
unfolding listed
listed_ahead a end h = refl
listed_ahead a (link {e = e} l r) h = omega (arith, if_no {A = ℕ} 1 0 (test_eqb e.account a) (λ q. omega arith), listed_ahead a r (omega arith))

pub listed_few : (a : ℕ) {lo : ℕ} {es : List Entry} → ByAccount lo es → listed a es ≤ 1
unfolding listed
listed_few a end = omega arith
listed_few a (link {e = e} l r) = elim (dec_le e.account a) [
  | yes h ↦ elim (dec_le a e.account) [
    | yes g ↦ omega (arith, if_yes {A = ℕ} 1 0 (test_eqb e.account a) (omega arith), listed_ahead a r (omega arith))
    | no g ↦ omega (arith, if_no {A = ℕ} 1 0 (test_eqb e.account a) (λ q. omega arith), listed_few a r)
  ]
  | no h ↦ omega (arith, if_no {A = ℕ} 1 0 (test_eqb e.account a) (λ q. omega arith), listed_ahead a r (omega arith))
]

-- the first of rising entries is not below the first of others that list its account
first_above : {hi : ℕ} (x y : Entry) (es fs : List Entry) → ByAccount hi (y ∷ fs) → ((a : ℕ) → listed a (x ∷ es) ≡ listed a (y ∷ fs)) → y.account ≤ x.account
first_above x y es fs (link l r) h = elim (dec_le y.account x.account) [
  | yes g ↦ g
  | no g ↦ absurd (omega (arith, listed_some (x ∷ es) x (Memᴰ.head refl), h x.account, listed_ahead x.account (link {lo = y.account} {e = y} {es = fs} (omega arith) r) (omega arith)))
]

-- what two first entries of one account leave
rest_alike : (x y : Entry) (es fs : List Entry) → x.account ≡ y.account → ((a : ℕ) → listed a (x ∷ es) ≡ listed a (y ∷ fs)) → (a : ℕ) → listed a es ≡ listed a fs
unfolding listed
rest_alike x y es fs q h a =
    let s : ◌≡◌ {A = ℕ} (if (eqb x.account a) 1 0) (if (eqb y.account a) 1 0) = rw q refl in
    omega (arith, h a, s)

module _ (g : ℕ → ℕ) where
  abbrev By : List Entry → Type 0
  By es = (e : Entry) → Memᴰ e es → e.pixels ≡ g e.account

  pub rising_same : {lo hi : ℕ} (es fs : List Entry) → ByAccount lo es → ByAccount hi fs → By es → By fs → ((a : ℕ) → listed a es ≡ listed a fs) → es ≡ fs
  rising_same [] [] r s p q h = refl
  rising_same [] (y ∷ fs) r s p q h = absurd (omega (arith, listed_some (y ∷ fs) y (Memᴰ.head refl), h y.account, listed_ahead y.account (end {lo = suc y.account}) (omega arith)))
  rising_same (x ∷ es) [] r s p q h = absurd (omega (arith, listed_some (x ∷ es) x (Memᴰ.head refl), h x.account, listed_ahead x.account (end {lo = suc x.account}) (omega arith)))
  rising_same (x ∷ es) (y ∷ fs) r s p q h =
      let k : x.account ≡ y.account = omega (arith, first_above x y es fs s h, first_above y x fs es r (λ a. sym (h a))) in
      let i : es ≡ fs = rising_same es fs (behind r) (behind s) (λ e m. p e (Memᴰ.tail m)) (λ e m. q e (Memᴰ.tail m)) (rest_alike x y es fs k h) in
      let j : x.pixels ≡ y.pixels = p x (Memᴰ.head refl) ∙ ap g k ∙ sym (q y (Memᴰ.head refl)) in
      λ d. record { account = k d; pixels = j d } ∷ i d
    where
      behind : {l : ℕ} {e : Entry} {ds : List Entry} → ByAccount l (e ∷ ds) → ByAccount (suc e.account) ds
      behind (link b t) = t

pub roster_only : {n : ℕ} {ts : List Tile} → Valid n ts → ((t : Tile) → t ∈ ts → t.account ≤ highest_account) → {lo : ℕ} {es : List Entry} → ByAccount lo es → Right ts es → es ≡ roster_of ts
roster_only {ts = ts} v low {es = es} s r =
    let o = told_true (test_good ts (roster_of ts)) (roster_of_good v low) in
    rising_same (λ a. covered a ts) es (roster_of ts) s (roster_of_rising ts) r.pixels o.pixels (λ a. r.once a ∙ sym (o.once a))
