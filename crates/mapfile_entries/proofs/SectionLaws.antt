-- The checks of a roster section in turn: what decides behind those that pass.
--     Behind ts rs x     the entries pass, and what comes behind them gives x
--     behind_entries     a number that is neither 41 nor 54 is of what comes behind the entries
--     Compared ts rs x   they end with the section, too, and the comparison with the tiles gives x
--     behind_all         a number that is not 42 either is of the comparison
--     compared           where the entries pass and end with the section, the comparison decides
--     unsorted, cut, trailing, judged   a section by its count and the bytes behind it
use mathlib.Core.Path.{◌≡◌, refl, ap, sym, ◌∙◌}
use mathlib.Core.Bool.{Bool, true, false}
use mathlib.Core.List.{List, ◌∷◌, map}
use Prim.Native.Nat.{ℕ, ◌+◌, ◌*◌, ◌/◌, ◌≤◌, ◌<◌, min}
use native.Mathlib.Omega.{arith}
use lib.Dec.{leb}
use lib.ListN.{length, take, get_or}
use borrow.Author.Tests.{lt-leb, le-leb}
use Rattle.std.specs.Simd.{first_chunks}
use Rattle.basics.proofs.Tests.{test_leb}
use Rattle.refusal.specs.Refusal.{accepted, file_cut_short, trailing_bytes, roster_wrong, roster_unsorted}
use Rattle.refusal.specs.Checks.{must, or_else}
use Rattle.refusal.proofs.CheckLaws.{must_on, must_off, must_other, else_on, else_other}
use Rattle.tile.specs.declared.Tile.{Tile}
use Rattle.mapfile_roster.specs.Roster.{roster_good, entry_in}
use Rattle.mapfile_entries.specs.RosterCheck.{entries_at, entries_check, roster_check}
use Rattle.mapfile_entries.proofs.EntriesInTurn.{rise_other, entries_behind, rise_whole}
use Rattle.mapfile_entries.specs.Pixels.{rises}

-- the comparison with the tiles
abbrev pub verdict : List Tile → List ℕ → ℕ
verdict ts rs = must (roster_good ts (entries_at (get_or rs 0 0) rs 1)) roster_wrong accepted

pub record Behind (ts : List Tile) (rs : List ℕ) (x : ℕ) : Type 0 where
  pub there : 1 ≤ length rs
  pub pass : entries_check (get_or rs 0 0) 0 rs 1 ≡ accepted
  pub rest : must (leb (length rs) (1 + 5 * get_or rs 0 0)) trailing_bytes (verdict ts rs) ≡ x

pub record Compared (ts : List Tile) (rs : List ℕ) (x : ℕ) : Type 0 where
  pub there : 1 ≤ length rs
  pub pass : entries_check (get_or rs 0 0) 0 rs 1 ≡ accepted
  pub upto : length rs ≤ 1 + 5 * get_or rs 0 0
  pub rest : verdict ts rs ≡ x

module _ (ts : List Tile) (rs : List ℕ) where
  pub behind_entries : {x : ℕ} → (file_cut_short ≡ x → ⊥) → (roster_unsorted ≡ x → ⊥) → roster_check ts rs ≡ x → Behind ts rs x
  unfolding roster_check
  behind_entries short low e =
      let a = must_other (test_leb 1 (length rs)) short e in
      let b = else_other _ _ (λ h q. omega (arith, rise_other (get_or rs 0 0) 0 rs 1 short low q)) a.1 in
      record { there = a.0; pass = b.0; rest = b.1 }

  pub behind_all : {x : ℕ} → (file_cut_short ≡ x → ⊥) → (roster_unsorted ≡ x → ⊥) → (trailing_bytes ≡ x → ⊥) → roster_check ts rs ≡ x → Compared ts rs x
  behind_all short low long e =
      let b = behind_entries short low e in
      let c = must_other (test_leb (length rs) (1 + 5 * get_or rs 0 0)) long b.rest in
      record { there = b.there; pass = b.pass; upto = c.0; rest = c.1 }

  pub compared : (q : ℕ) {g : Bool} → q ≡ get_or rs 0 0 → 1 ≤ length rs → entries_check q 0 rs 1 ≡ accepted → length rs ≤ 1 + 5 * q → g ≡ roster_good ts (entries_at q rs 1) → roster_check ts rs ≡ must g roster_wrong accepted
  unfolding roster_check
  compared q n h e l k =
      must_on file_cut_short _ (test_leb 1 (length rs)) h ∙ rw (← n) (else_on _ _ e ∙ must_on trailing_bytes _ (test_leb (length rs) (1 + 5 * q)) l ∙ rw (← k))

-- a section by its count q and the bytes behind it, which have k fives, of which m are listed
module _ (ts : List Tile) (q m k : ℕ) (es : List ℕ) (cs : List (List ℕ)) (ek : k ≡ length es / 5) (ec : cs ≡ first_chunks 5 (length es / 5) es) (em : m ≡ min q k) where
  abbrev rs : List ℕ
  rs = q ∷ es

  abbrev bs : List (List ℕ)
  bs = take m cs

  listed : map entry_in bs ≡ entries_at (min q k) rs 1
  listed = rw (ec, em, ← ek) (entries_behind (min q k) k q es (omega arith))

  each : entries_check q 0 rs 1 ≡ must (rises 0 (map entry_in bs)) roster_unsorted (must (leb q k) file_cut_short accepted)
  each = rise_whole q k 0 rs 1 (omega arith) (omega arith) ∙ rw listed

  behind : roster_check ts rs ≡ or_else (entries_check q 0 rs 1) (must (leb (length rs) (1 + 5 * q)) trailing_bytes (verdict ts rs))
  unfolding roster_check
  behind = must_on file_cut_short _ (test_leb 1 (length rs)) (omega arith)

  pub unsorted : rises 0 (map entry_in bs) ≡ false → roster_unsorted ≡ roster_check ts rs
  unfolding must or_else
  unsorted h = sym (behind ∙ rw (each, h))

  module _ (h : rises 0 (map entry_in bs) ≡ true) where
    pub cut : k < q → file_cut_short ≡ roster_check ts rs
    unfolding must or_else
    cut l = sym (behind ∙ rw (each, h, lt-leb q k l))

    module _ (l : q ≤ k) where
      passes : entries_check q 0 rs 1 ≡ accepted
      unfolding must
      passes = each ∙ rw (h, le-leb q k l)

      pub trailing : 5 * q < length es → trailing_bytes ≡ roster_check ts rs
      trailing m = sym (behind ∙ else_on _ _ passes ∙ must_off trailing_bytes _ (test_leb (length rs) (1 + 5 * q)) (λ n. omega arith))

      pub judged : length es ≤ 5 * q → roster_check ts rs ≡ must (roster_good ts (map entry_in bs)) roster_wrong accepted
      judged m =
          let z : min q k ≡ q = omega arith in
          compared ts rs q refl (omega arith) passes (omega arith) (ap (roster_good ts) (listed ∙ rw z))
