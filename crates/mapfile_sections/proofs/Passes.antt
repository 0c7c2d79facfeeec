-- The passes of the writer, turn by turn: what is done and what is left make the whole.
--     entry_of_count, -length     an account with pixels has one entry, one without has none
--     entry_none, entry_one      one step of the roster, without and with an entry
--     roster_from_entry           the roster from an account on is its entry, if it has one, and the roster behind it
--     roster_at ts a              the roster from the account a on, to the highest
--     length_entries_bytes        entries take 5 bytes each
--     entries_on, -end           the entries stored, by the accounts from a on
--     entries_room               the room that they need
use mathlib.Core.Path.{◌≡◌, refl, ap, sym, ◌∙◌}
use mathlib.Core.Bool.{Bool, true, false}
use mathlib.Core.List.{List, [], ◌∷◌, ◌++◌}
use Prim.Native.Nat.{ℕ, suc, ◌+◌, ◌-◌, ◌*◌, ◌≤◌}
use native.Mathlib.Omega.{arith}
use native.Mathlib.Numerals.{add-one}
use lib.Dec.{ltb}
use lib.ListN.{length, set, length-append}
use lib.Seq.{sets}
use Rattle.basics.specs.Choice.{if}
use Rattle.basics.proofs.Tests.{test_leb}
use Rattle.basics.proofs.ChoiceLaws.{if_yes, if_no}
use Rattle.tile.specs.declared.Tile.{Tile}
use Rattle.tile.specs.Tile.{highest_account}
use Rattle.mapfile_roster.specs.declared.Entry.{Entry}
use Rattle.mapfile_roster.specs.Roster.{covered, roster_from}
use Rattle.mapfile_sections.specs.OneEntry.{entry_of}
use Rattle.mapfile_sections.specs.Sections.{word_bytes, entries_bytes}
use Rattle.mapfile_sections.proofs.Puts.{sets_append}

entry_join : (b : Bool) (e : Entry) (es : List Entry) → if b (e ∷ es) es ≡ if b (e ∷ []) [] ++ es
unfolding if
entry_join true e es = refl
entry_join false e es = refl

entry_length_lem : (b : Bool) (e : Entry) → length (if b (e ∷ []) []) ≡ if b 1 0
unfolding if
entry_length_lem true e = refl
entry_length_lem false e = refl

pub entry_of_count : (a x : ℕ) → length (entry_of a x) ≡ if (ltb 0 x) 1 0
unfolding entry_of
entry_of_count a x = entry_length_lem (ltb 0 x) (record { account = a; pixels = x })

entry_of_none : (a x : ℕ) → x ≡ 0 → entry_of a x ≡ []
unfolding entry_of
entry_of_none a x e = if_no _ _ (test_leb 1 x) (λ l. omega arith)

entry_of_one : (a x : ℕ) → (x ≡ 0 → ⊥) → entry_of a x ≡ record { account = a; pixels = x } ∷ []
unfolding entry_of
entry_of_one a x e = if_yes _ _ (test_leb 1 x) (omega arith)

pub entry_of_length : (a x : ℕ) → (x ≡ 0 → ⊥) → length (entry_of a x) ≡ 1
entry_of_length a x e = ap length (entry_of_one a x e)

module _ (xs : List ℕ) (p a x : ℕ) where
  pub entry_none : x ≡ 0 → (p ≡ p + 5 * length (entry_of a x)) × (xs ≡ sets xs p (entries_bytes (entry_of a x)))
  unfolding entries_bytes
  entry_none e = rw (entry_of_none a x e) (omega arith, refl)

  pub entry_one : {ys : List ℕ} → (x ≡ 0 → ⊥) → ys ≡ sets (set xs p a) (p + 1) (word_bytes x) → (p + 5 ≡ p + 5 * length (entry_of a x)) × (ys ≡ sets xs p (entries_bytes (entry_of a x)))
  unfolding entries_bytes
  entry_one e ey = rw (entry_of_one a x e) (omega arith, ey ∙ rw (add-one p))

pub roster_from_entry : (ts : List Tile) (a k : ℕ) → roster_from ts a (suc k) ≡ entry_of a (covered a ts) ++ roster_from ts (suc a) k
unfolding roster_from entry_of
roster_from_entry ts a k = entry_join (ltb 0 (covered a ts)) (record { account = a; pixels = covered a ts }) (roster_from ts (suc a) k)

abbrev pub roster_at : List Tile → ℕ → List Entry
roster_at ts a = roster_from ts a (suc highest_account - a)

roster_at_entry : (ts : List Tile) (a : ℕ) → a ≤ highest_account → roster_at ts a ≡ entry_of a (covered a ts) ++ roster_at ts (a + 1)
roster_at_entry ts a h =
    let e : suc highest_account - a ≡ suc (suc highest_account - (a + 1)) = omega arith in
    rw (e, add-one a) (roster_from_entry ts a (suc highest_account - suc a))

roster_at_end : (ts : List Tile) (a : ℕ) → a ≡ suc highest_account → roster_at ts a ≡ []
unfolding roster_from
roster_at_end ts a h = let e : suc highest_account - a ≡ 0 = omega arith in rw e

entries_bytes_append : (es fs : List Entry) → entries_bytes (es ++ fs) ≡ entries_bytes es ++ entries_bytes fs
unfolding entries_bytes
entries_bytes_append [] fs = refl
entries_bytes_append (e ∷ es) fs = rw (entries_bytes_append es fs)

pub length_entries_bytes : (es : List Entry) → length (entries_bytes es) ≡ 5 * length es
unfolding entries_bytes
length_entries_bytes [] = refl
length_entries_bytes (e ∷ es) = omega (arith, length_entries_bytes es)

module _ (ts : List Tile) (a p : ℕ) {all : List ℕ} (xs : List ℕ) (e : all ≡ sets xs p (entries_bytes (roster_at ts a))) where
  pub entries_on : (ys : List ℕ) (x q : ℕ) → a ≤ highest_account → x ≡ covered a ts → q ≡ p + 5 * length (entry_of a x) → ys ≡ sets xs p (entries_bytes (entry_of a x)) → all ≡ sets ys q (entries_bytes (roster_at ts (a + 1)))
  entries_on ys x q h ex eq ey =
      e ∙ rw (roster_at_entry ts a h, entries_bytes_append (entry_of a (covered a ts)) (roster_at ts (a + 1)), ey, eq, ex, ← length_entries_bytes (entry_of a (covered a ts)))
      (sets_append xs p (entries_bytes (entry_of a (covered a ts))) (entries_bytes (roster_at ts (a + 1))))

  pub entries_end : a ≡ suc highest_account → xs ≡ all
  unfolding entries_bytes
  entries_end h = sym (e ∙ rw (roster_at_end ts a h))

pub entries_room : (ts : List Tile) (a x : ℕ) → a ≤ highest_account → x ≡ covered a ts → length (roster_at ts a) ≡ length (entry_of a x) + length (roster_at ts (a + 1))
entries_room ts a x h ex = rw ex (ap length (roster_at_entry ts a h) ∙ length-append (entry_of a (covered a ts)) (roster_at ts (a + 1)))
