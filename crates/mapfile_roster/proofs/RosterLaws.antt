-- Laws of the roster, by rising account.
--     roster_from_yes        an account with tiles has its entry
--     ByAccount lo es       the accounts of the entries es rise strictly, from lo on
--     by_account_down       and so they do from any account below it
--     roster_of_rising       the roster is by rising account
--     roster_of_good         it is the roster of its tiles
--     roster_of_few          it has at most one entry for each account
--     accounts_of ts         how many accounts have tiles
--     roster_of_length       it has as many entries
--     roster_of_pixels       the pixels of an entry are those of an account
use mathlib.Core.Path.{◌≡◌, refl, ap, ◌∙◌}
use mathlib.Core.Bool.{true}
use mathlib.Core.List.Memᴰ
use mathlib.Core.List.{List, [], ◌∷◌, Memᴰ}
use Prim.Native.Nat.{ℕ, zero, suc, ◌+◌, ◌≤◌, ◌<◌}
use native.Mathlib.Decide.{dec_le}
use native.Mathlib.Nat.{add-zero}
use native.Mathlib.Omega.{arith}
use lib.Dec.{ltb}
use lib.ListN.{length}
use borrow.Author.Tests.{lt-ltb, eq-eqb}
use Rattle.basics.specs.Choice.{count}
use Rattle.basics.proofs.Tests.{test_leb, test_eqb}
use Rattle.basics.proofs.ChoiceLaws.{if_yes, if_no, by_if}
use Rattle.tile.specs.declared.Tile.{Tile}
use Rattle.tile.specs.Tile.{highest_account}
use Rattle.quadtree.specs.Raster.{◌∈◌}
use Rattle.quadtree.specs.Valid.{Valid}
use Rattle.quadtree.proofs.ValidLaws.{valid_quadrant}
use Rattle.mapfile_roster.specs.declared.Entry.{Entry}
use Rattle.mapfile_roster.specs.Roster.{covered, roster_from, roster_of, listed, entry_good, entries_good, tiles_listed, roster_good}
use Rattle.mapfile_roster.proofs.CoveredLaws.{covered_some, covered_nobody}

pub data ByAccount : ℕ → List Entry → Type 0 where
  end : {lo : ℕ} → ByAccount lo []
  link : {lo : ℕ} {e : Entry} {es : List Entry} → lo ≤ e.account → ByAccount (suc e.account) es → ByAccount lo (e ∷ es)

pub by_account_down : {lo hi : ℕ} {es : List Entry} → lo ≤ hi → ByAccount hi es → ByAccount lo es
by_account_down {lo} h end = end {lo = lo}
by_account_down {lo} {hi} h (link {e = e} l r) = link {lo = lo} {e = e} (omega arith) r

module _ (ts : List Tile) where
  pub roster_from_yes : (a k : ℕ) → 0 < covered a ts → roster_from ts a (suc k) ≡ record { account = a; pixels = covered a ts } ∷ roster_from ts (suc a) k
  unfolding roster_from
  roster_from_yes a k h = if_yes _ _ (test_leb 1 (covered a ts)) h

  -- a fact of the roster, account by account
  by_account : (Q : List Entry → Type 0) (a k : ℕ) → (0 < covered a ts → Q (record { account = a; pixels = covered a ts } ∷ roster_from ts (suc a) k)) → (covered a ts ≡ 0 → Q (roster_from ts (suc a) k)) → Q (roster_from ts a (suc k))
  unfolding roster_from
  by_account Q a k f g = by_if Q (test_leb 1 (covered a ts)) f (λ n. g (omega arith))

  roster_from_rising : (a k : ℕ) → ByAccount a (roster_from ts a k)
  unfolding roster_from
  roster_from_rising a zero = end
  roster_from_rising a (suc k) = by_account (ByAccount a) a k
      (λ h. link (omega arith) (roster_from_rising (suc a) k))
      (λ h. by_account_down (omega arith) (roster_from_rising (suc a) k))

  roster_from_few : (a k : ℕ) → length (roster_from ts a k) ≤ k
  unfolding roster_from
  roster_from_few a zero = omega arith
  roster_from_few a (suc k) = by_account (λ es. length es ≤ suc k) a k (λ h. omega (arith, roster_from_few (suc a) k)) (λ h. omega (arith, roster_from_few (suc a) k))

  roster_from_pixels : (a k : ℕ) (e : Entry) → Memᴰ e (roster_from ts a k) → e.pixels ≡ covered e.account ts
  unfolding roster_from
  roster_from_pixels a zero e m = absurd (Memᴰ.not-nil m)
  roster_from_pixels a (suc k) e m = by_account (λ es. Memᴰ e es → e.pixels ≡ covered e.account ts) a k
      (λ h i. first (roster_from_pixels (suc a) k e) i)
      (λ h i. roster_from_pixels (suc a) k e i)
      m
    where
      first : (Memᴰ e (roster_from ts (suc a) k) → e.pixels ≡ covered e.account ts) → Memᴰ e (record { account = a; pixels = covered a ts } ∷ roster_from ts (suc a) k) → e.pixels ≡ covered e.account ts
      first f (Memᴰ.head q) = rw q refl
      first f (Memᴰ.tail m) = f m

  -- the roster from a on lists no account before a, and each that has tiles once
  listed_before : (b a k : ℕ) → b < a → listed b (roster_from ts a k) ≡ 0
  unfolding listed roster_from
  listed_before b a zero h = refl
  listed_before b a (suc k) h = by_account (λ es. listed b es ≡ 0) a k
      (λ g. omega (arith, if_no {A = ℕ} 1 0 (test_eqb a b) (λ e. omega arith), listed_before b (suc a) k (omega arith)))
      (λ g. listed_before b (suc a) k (omega arith))

  listed_once : (b a k : ℕ) → a ≤ b → b < a + k → 0 < covered b ts → listed b (roster_from ts a k) ≡ 1
  unfolding listed roster_from
  listed_once b a zero h l c = absurd (omega arith)
  listed_once b a (suc k) h l c = elim (dec_le b a) [
    | yes e ↦
        let s : a ≡ b = omega arith in
        rw (roster_from_yes a k (rw s c)) (omega (arith, if_yes {A = ℕ} 1 0 (test_eqb a b) s, listed_before b (suc a) k (omega arith)))
    | no e ↦ by_account (λ es. listed b es ≡ 1) a k
        (λ g. omega (arith, if_no {A = ℕ} 1 0 (test_eqb a b) (λ s. omega arith), listed_once b (suc a) k (omega arith) (omega arith) c))
        (λ g. listed_once b (suc a) k (omega arith) (omega arith) c)
  ]

  module _ (all : List Entry) where
    roster_from_good : (a k : ℕ) → ((b : ℕ) → a ≤ b → b < a + k → 0 < covered b ts → listed b all ≡ 1) → entries_good ts all (roster_from ts a k) ≡ true
    unfolding entries_good entry_good roster_from
    roster_from_good a zero h = refl
    roster_from_good a (suc k) h = by_account (λ es. entries_good ts all es ≡ true) a k
        (λ c. rw (lt-ltb 0 (covered a ts) c, eq-eqb (covered a ts) (covered a ts) refl, eq-eqb (listed a all) 1 (h a (omega arith) (omega arith) c)) (roster_from_good (suc a) k (λ b l u. h b (omega arith) (omega arith))))
        (λ c. roster_from_good (suc a) k (λ b l u. h b (omega arith) (omega arith)))

    all_listed : (us : List Tile) → ((t : Tile) → t ∈ us → listed t.account all ≡ 1) → tiles_listed all us ≡ true
    unfolding tiles_listed
    all_listed [] h = refl
    all_listed (t ∷ us) h = rw (h t (Memᴰ.head refl)) (all_listed us (λ u m. h u (Memᴰ.tail m)))

  pub roster_of_rising : ByAccount 1 (roster_of ts)
  roster_of_rising = roster_from_rising 1 highest_account

  pub roster_of_few : length (roster_of ts) ≤ highest_account
  roster_of_few = roster_from_few 1 highest_account

  pub roster_of_pixels : (e : Entry) → Memᴰ e (roster_of ts) → e.pixels ≡ covered e.account ts
  roster_of_pixels = roster_from_pixels 1 highest_account

  abbrev pub accounts_of : ℕ
  accounts_of = count (λ a. ltb 0 (covered a ts)) (suc highest_account)

  roster_from_count : (a k : ℕ) → length (roster_from ts a k) + count (λ b. ltb 0 (covered b ts)) a ≡ count (λ b. ltb 0 (covered b ts)) (a + k)
  unfolding roster_from count
  roster_from_count a zero = rw (add-zero a) (omega arith)
  roster_from_count a (suc k) =
      let e : suc a + k ≡ a + suc k = omega arith in
      by_account (λ es. length es + count (λ b. ltb 0 (covered b ts)) a ≡ length (roster_from ts (suc a) k) + count (λ b. ltb 0 (covered b ts)) (suc a)) a k
      (λ h. omega (arith, if_yes {A = ℕ} 1 0 (test_leb 1 (covered a ts)) h))
      (λ h. omega (arith, if_no {A = ℕ} 1 0 (test_leb 1 (covered a ts)) (λ l. omega arith)))
      ∙ roster_from_count (suc a) k ∙ ap (count (λ b. ltb 0 (covered b ts))) e

  count_first : covered 0 ts ≡ 0 → count (λ b. ltb 0 (covered b ts)) 1 ≡ 0
  unfolding count
  count_first z = omega (arith, if_no {A = ℕ} 1 0 (test_leb 1 (covered 0 ts)) (λ l. omega arith))

module _ {n : ℕ} {ts : List Tile} (v : Valid n ts) where
  pub roster_of_length : length (roster_of ts) ≡ accounts_of ts
  roster_of_length = omega (arith, roster_from_count ts 1 highest_account, count_first ts (covered_nobody v))

  pub roster_of_good : ((t : Tile) → t ∈ ts → t.account ≤ highest_account) → roster_good ts (roster_of ts) ≡ true
  unfolding roster_good
  roster_of_good h =
      rw (roster_from_good ts (roster_of ts) 1 highest_account (λ b l u c. listed_once ts b 1 highest_account l u c))
      (all_listed ts (roster_of ts) ts (λ t m. listed_once ts t.account 1 highest_account (valid_quadrant v m).owned (omega (arith, h t m)) (covered_some ts m)))
