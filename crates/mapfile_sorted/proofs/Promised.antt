-- What is promised of the roster by rising account.
--     read_number     the reader's number is that of its checks
--     writes_sorted   the roster that is written is the map's, and rises
--     reads_sorted    what the reader answers of the roster of any file
use mathlib.Core.Path.{◌≡◌, refl, sym, ◌∙◌}
use mathlib.Core.Bool.{Bool, true, false}
use mathlib.Core.List.{List, Memᴰ}
use Prim.Native.Nat.{ℕ, zero, suc, ◌+◌, ◌*◌, ◌≤◌, ◌<◌}
use native.Mathlib.Omega.{arith}
use lib.ListN.{length, take, get_or}
use Rattle.basics.proofs.Tests.{Test, holds, fails, test_leb, told_true}
use Rattle.basics.proofs.ChoiceLaws.{if_no}
use Rattle.refusal.specs.Refusal.{accepted, file_cut_short}
use Rattle.refusal.specs.Checks.{After}
use Rattle.refusal.proofs.CheckLaws.{unless_number}
use Rattle.tile.specs.declared.Tile.{Tile}
use Rattle.tile.specs.Slots.{tiles_in}
use Rattle.quadtree.specs.Valid.{Valid}
use Rattle.bed.specs.declared.Scan.{Scan}
use Rattle.mapfile_bytes.specs.Items.{word_at}
use Rattle.mapfile_roster.specs.Roster.{covered, roster_of, roster_good}
use Rattle.mapfile_roster.proofs.CoveredLaws.{covered_nobody}
use Rattle.mapfile_roster.proofs.RosterLaws.{ByAccount, link, roster_of_rising, roster_of_good}
use Rattle.mapfile_roster.proofs.GoodLaws.{test_good, listed_some}
use Rattle.mapfile_roster.proofs.RisingLaws.{roster_only}
use Rattle.mapfile_entries.specs.RosterCheck.{entries_at, roster_check}
use Rattle.mapfile_entries.proofs.EntriesInTurn.{rise_rising}
use Rattle.mapfile_read.specs.declared.ReadAnswer.{ReadAnswer}
use Rattle.mapfile_read.specs.Reader.{file_order, file_count, file_words, file_check, read_of}
use Rattle.mapfile_read.proofs.ReaderLaws.{file_check_passed, file_check_roster, tiles_check_valid}
use Rattle.mapfile_write.specs.Writer.{file_of, write_check, write_of}
use Rattle.mapfile_laws.specs.Totals.{section, file_entries}
use Rattle.mapfile_laws.proofs.RoundTrip.{file_of_entries, file_of_accepted, tiles_accounts, slots_accounts, write_number, write_passed, written_file}
use Rattle.mapfile_sorted.specs.Sorted.{entry_count, entry_account, Rises, Unsorted, Ends, TilesPass, tiles_of, WritesSorted, RosterRead, ReadsSorted}
use Rattle.mapfile_sorted.proofs.Section.{falls_between, rises_pass, section_unsorted, section_cut, section_more, section_wrong, section_accepts}

-- the entries of a section by rising account, by their places
module _ (rs : List ℕ) where
  by_place : (q lo p j : ℕ) → ByAccount lo (entries_at q rs p) → j + 1 < q → get_or rs (p + 5 * j) 0 < get_or rs (p + 5 * (j + 1)) 0
  unfolding entries_at
  by_place zero lo p j r h = absurd (omega arith)
  by_place (suc zero) lo p j r h = absurd (omega arith)
  by_place (suc (suc q)) lo p zero (link l (link k r)) h =
      let y : p + 5 * 0 ≡ p = omega arith in
      let z : p + 5 * (0 + 1) ≡ p + 5 = omega arith in
      rw (y, z) k
  by_place (suc (suc q)) lo p (suc j) (link l r) h =
      let y : p + 5 * suc j ≡ p + 5 + 5 * j = omega arith in
      let z : p + 5 * (suc j + 1) ≡ p + 5 + 5 * (j + 1) = omega arith in
      rw (y, z) (by_place (suc q) (suc (get_or rs p 0)) (p + 5) j r (omega arith))

  first_entry : (q p : ℕ) → 0 < q → Memᴰ (record { account = get_or rs p 0; pixels = word_at rs (p + 1) }) (entries_at q rs p)
  unfolding entries_at
  first_entry zero p h = absurd (omega arith)
  first_entry (suc q) p h = Memᴰ.head refl

test_false : {P : Type 0} {b : Bool} → Test P b → (P → ⊥) → b ≡ false
test_false (holds p) n = absurd (n p)
test_false (fails p) n = refl

pub read_number : (file slots : List ℕ) → (read_of file slots).answer.number ≡ file_check (length slots) file
unfolding read_of
read_number file slots = unless_number (λ (x : After ReadAnswer). x.answer.number) (file_check (length slots) file) (λ r. refl) refl

roster_rises : (file : List ℕ) → file_entries file ≡ roster_of (tiles_of file) → Rises (section file)
roster_rises file e j = by_place (section file) (entry_count (section file)) 1 1 j (rw e (roster_of_rising (tiles_of file)))

module _ (m : ℕ) (file : List ℕ) where
  pass_valid : TilesPass m file → Valid (file_order file) (tiles_of file)
  pass_valid l = (tiles_check_valid (file_order file) l.order (file_count file) file l.head l.words).1

  pass_number : TilesPass m file → file_check m file ≡ roster_check (tiles_of file) (section file)
  pass_number l = file_check_roster m file l.head l.order l.slots l.words

  number_pass : {x : ℕ} → ((y : ℕ) → 0 < y → y ≤ file_cut_short → y ≡ x → ⊥) → file_check m file ≡ x → TilesPass m file × (roster_check (tiles_of file) (section file) ≡ x)
  number_pass h e =
      let p = file_check_passed m file h e in
      (record { head = omega (arith, p.room); order = p.order; slots = p.count; words = p.words }, p.roster)

  -- entries that rise and are good are the roster
  only : TilesPass m file → Ends (section file) → Rises (section file) → roster_good (tiles_of file) (file_entries file) ≡ true → file_entries file ≡ roster_of (tiles_of file)
  only l w r g =
      let rs = section file in
      roster_only (pass_valid l) (tiles_accounts (file_words file)) (rise_rising (entry_count rs) 0 rs 1 (rises_pass rs (omega (arith, w)) r)) (told_true (test_good (tiles_of file) (file_entries file)) g)

  roster_good_lem : TilesPass m file → file_entries file ≡ roster_of (tiles_of file) → roster_good (tiles_of file) (file_entries file) ≡ true
  roster_good_lem l e = rw e (roster_of_good (pass_valid l) (tiles_accounts (file_words file)))

  -- an entry of account 0 is not of the roster
  nobody_wrong : TilesPass m file → 0 < entry_count (section file) → entry_account (section file) 0 ≡ 0 → roster_good (tiles_of file) (file_entries file) ≡ false
  nobody_wrong l h z = test_false (test_good (tiles_of file) (file_entries file)) (λ r.
      let n : covered 0 (tiles_of file) ≡ 0 = covered_nobody (pass_valid l) in
      let k = listed_some (file_entries file) _ (first_entry (section file) (entry_count (section file)) 1 h) in
      omega (arith, rw z at k, r.once 0, if_no {A = ℕ} 1 0 (test_leb 1 (covered 0 (tiles_of file))) (λ c. omega arith)))

-- an account a second time: by then an entry is not above the one ahead of it, so that they do not rise
module _ (rs : List ℕ) (i j : ℕ) (h : i < j) (b : j < entry_count rs) (e : entry_account rs j ≡ entry_account rs i) where
  again : (k : ℕ) × (k < j) × (entry_account rs (k + 1) ≤ entry_account rs k)
  again = falls_between (λ x. entry_account rs x) i j h (omega arith)

  again_unsorted : 1 + 5 * (j + 1) ≤ length rs → Unsorted rs
  again_unsorted l = let k = again in (k.0, omega (arith, k.1), omega (arith, k.1), k.2)

  again_not : Rises rs → ⊥
  again_not r = let k = again in omega (arith, k.2, r k.0 (omega (arith, k.1)))

module _ (file slots : List ℕ) where
  abbrev m : ℕ
  m = length slots

  abbrev ts : List Tile
  ts = tiles_of file

  abbrev rs : List ℕ
  rs = section file

  -- the reader's number is the section's, and where the section gives it, what is ahead passes
  from : {x : ℕ} → ((y : ℕ) → 0 < y → y ≤ file_cut_short → y ≡ x → ⊥) → (read_of file slots).answer.number ≡ x → TilesPass m file × (roster_check ts rs ≡ x)
  from h e = number_pass m file h (sym (read_number file slots) ∙ e)

  to : {x : ℕ} → TilesPass m file → roster_check ts rs ≡ x → (read_of file slots).answer.number ≡ x
  to l e = read_number file slots ∙ pass_number m file l ∙ e

  roster_read : RosterRead file slots
  roster_read = record {
    unsorted = (λ e. let p = from (λ y g l q. omega arith) e in (p.0, (section_unsorted ts rs).0 p.1), λ p. to p.0 ((section_unsorted ts rs).1 p.1));
    cut = λ l. (
      λ e. let s = (section_cut ts rs).0 (sym (to l refl) ∙ e) in (s.0, omega (arith, s.1)),
      λ p. to l ((section_cut ts rs).1 (p.0, omega (arith, p.1))),
    );
    more = (
      λ e.
          let p = from (λ y g l q. omega arith) e in
          let s = (section_more ts rs).0 p.1 in
          (p.0, s.0, omega (arith, s.1)),
      λ p. to p.0 ((section_more ts rs).1 (p.1, omega (arith, p.2))),
    );
    wrong = (
      λ e.
          let p = from (λ y g l q. omega arith) e in
          let s = (section_wrong ts rs).0 p.1 in
          (p.0, s.0, s.1, s.2),
      λ p. to p.0 ((section_wrong ts rs).1 (p.1, p.2, p.3)),
    );
    accepts = (
      λ e.
          let p = from (λ y g l q. omega arith) e in
          let s = (section_accepts ts rs).0 p.1 in
          (p.0, s.0, only m file p.0 s.0 s.1 s.2),
      λ p. to p.0 ((section_accepts ts rs).1 (p.1, roster_rises file p.2, roster_good_lem m file p.0 p.2)),
    );
    repeated = λ i j h b e l k. to l ((section_unsorted ts rs).1 (again_unsorted rs i j h b e (omega (arith, k))));
    never = λ i j h b e x. again_not rs i j h b e ((section_wrong ts rs).0 (from (λ y g l q. omega arith) x).1).1;
    nobody = λ l w r h z. to l ((section_wrong ts rs).1 (w, r, nobody_wrong m file l h z));
  }

pub reads_sorted : ReadsSorted
unfolding ReadsSorted
reads_sorted = roster_read

pub writes_sorted : WritesSorted
writes_sorted = record { entries = λ scan slots file e. entries scan slots file (sym (write_number scan slots file) ∙ e); rises = λ scan slots file e. rises scan slots file (sym (write_number scan slots file) ∙ e) }
  where
    entries : (scan : Scan) (slots file : List ℕ) → write_check scan slots file ≡ accepted → file_entries (take (write_of scan slots file).answer.length (write_of scan slots file).storage) ≡ roster_of (tiles_in scan.tiles slots)
    entries scan slots file e =
        let v = (write_passed scan slots file e).opened in
        rw (written_file scan slots file e) (file_of_entries scan.order (tiles_in scan.tiles slots) v.order v.valid (slots_accounts scan.tiles slots))

    rises : (scan : Scan) (slots file : List ℕ) → write_check scan slots file ≡ accepted → Rises (section (take (write_of scan slots file).answer.length (write_of scan slots file).storage))
    rises scan slots file e =
        let v = (write_passed scan slots file e).opened in
        let ts = tiles_in scan.tiles slots in
        let bytes = file_of scan.order ts in
        let a = file_of_accepted scan.order ts v.order v.valid (slots_accounts scan.tiles slots) (length ts) (omega arith) in
        rw (written_file scan slots file e) ((section_accepts (tiles_of bytes) (section bytes)).0 (number_pass (length ts) bytes (λ y g l q. omega arith) a).1).1
