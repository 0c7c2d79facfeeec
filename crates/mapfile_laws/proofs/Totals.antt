-- An account's total is the number of its pixels in the decoded raster.
--     occurs_rows       an account occurs in a raster by rows as often as among its pixels
--     covered_rows      the pixels that an account's tiles cover are its bytes in the raster of a valid list
--     good_tallies      entries are the roster of a valid list exactly if they tally with that raster
--     decoded_rows      what decoding a list that is accepted leaves
--     left              the slots that a reading leaves; tiles-left, left-accepted, their tiles are the file's, and pass the list checks
--     account_totals    all that is promised of totals
use mathlib.Core.Path.{◌≡◌, ap, sym, ◌∙◌}
use mathlib.Core.Bool.{true}
use mathlib.Core.List.{List, ◌++◌, map, Memᴰ}
use mathlib.Core.Logic.{◌↔◌}
use Prim.Native.Nat.{ℕ, zero, suc, ◌+◌, ◌-◌, ◌^◌, ◌≤◌}
use native.Mathlib.Nat.{add-zero}
use native.Mathlib.Decide.{dec_le}
use native.Mathlib.Omega.{arith}
use lib.Dec.{ltb, eqb}
use lib.ListN.{length, take, get_or, replicate, length-append}
use lib.Seq.{take_at}
use Rattle.basics.specs.Choice.{if, count, tabulate}
use Rattle.basics.proofs.Tests.{test_leb, told_true, test_true}
use Rattle.basics.proofs.ChoiceLaws.{if_no}
use Rattle.basics.proofs.CountLaws.{count_moved}
use Rattle.refusal.specs.Refusal.{accepted, roster_wrong}
use Rattle.refusal.specs.Checks.{After}
use Rattle.refusal.proofs.CheckLaws.{must_on, must_inv}
use Rattle.tile.specs.declared.Tile.{Tile}
use Rattle.tile.specs.Tile.{tile_of}
use Rattle.tile.specs.Slots.{tiles_in}
use Rattle.quadtree.specs.Raster.{account_at}
use Rattle.quadtree.specs.Quadtree.{quadtree}
use Rattle.quadtree.specs.Valid.{Valid}
use Rattle.quadtree.proofs.Linear.{linear_unique}
use Rattle.quadtree.proofs.ValidLaws.{quadtree_valid, quadtree_shown}
use Rattle.list_check.specs.ListCheck.{list_check}
use Rattle.list_check.proofs.Accepts.{list_check_valid}
use Rattle.bed.specs.declared.Kind.TheVariants.{Rows}
use Rattle.bed.specs.declared.Scan.{Scan}
use Rattle.bed.specs.Places.{place_of, pixel_at, rows}
use Rattle.bed.proofs.PlaceLaws.{pixel_at_lt, place_of_lt, place_of_pixel_at, pixel_at_place_of, rows_cong}
use Rattle.decode.specs.Decode.{decode_of}
use Rattle.decode.proofs.DecodeLaws.{decode_of_filled}
use Rattle.mapfile_roster.specs.declared.Entry.{Entry}
use Rattle.mapfile_roster.specs.Roster.{covered, listed, roster_good}
use Rattle.mapfile_roster.proofs.CoveredLaws.{covered_pixels, covered_nobody}
use Rattle.mapfile_roster.proofs.GoodLaws.{Right, test_good, listed_some}
use Rattle.mapfile_roster.proofs.RosterLaws.{roster_of_good}
use Rattle.mapfile_entries.specs.RosterCheck.{entries_at, roster_check}
use Rattle.mapfile_entries.proofs.SectionLaws.{behind_all}
use Rattle.mapfile_read.specs.Reader.{file_order, file_count, file_words, file_check}
use Rattle.mapfile_read.proofs.ReaderLaws.{Passed, read_of_valid, read_of_accepted, read_of_wrong}
use Rattle.mapfile_write.specs.Writer.{write_check, write_of}
use Rattle.mapfile_laws.specs.Totals.{occurs, file_entries, Tallies, Totals}
use Rattle.mapfile_laws.proofs.RoundTrip.{file_of_entries, slots_accounts, write_passed, written_file}

occurs_table : (a : ℕ) (g : ℕ → ℕ) (lo n : ℕ) → occurs a (tabulate g lo n) + count (λ i. eqb (g i) a) lo ≡ count (λ i. eqb (g i) a) (lo + n)
unfolding occurs tabulate count
occurs_table a g lo zero = rw (add-zero lo) (omega arith)
occurs_table a g lo (suc n) =
    let e : suc lo + n ≡ lo + suc n = omega arith in
    omega (arith, occurs_table a g (suc lo) n, ap (count (λ i. eqb (g i) a)) e)

pub occurs_rows : (a n : ℕ) (f : ℕ → ℕ) → occurs a (rows n f) ≡ count (λ z. eqb (f z) a) (4 ^ n)
unfolding rows count
occurs_rows a n f =
    let z : 0 + 4 ^ n ≡ 4 ^ n = omega arith in
    omega (
      arith,
      rw z at (occurs_table a (λ i. f (pixel_at Rows n i)) 0 (4 ^ n)),
      count_moved (pixel_at Rows n) (place_of Rows n) (4 ^ n) (pixel_at_lt Rows n) (place_of_lt Rows n) (place_of_pixel_at Rows n) (pixel_at_place_of Rows n) (λ z. eqb (f z) a),
    )

-- how many entries an account of so many pixels has
abbrev entries_of : ℕ → ℕ
entries_of x = if (ltb 0 x) 1 0

-- where account 0 has no entry, each entry is somebody's
somebody : {es : List Entry} → listed 0 es ≡ 0 → (e : Entry) → Memᴰ e es → 1 ≤ e.account
somebody {es} z e m = elim (dec_le 1 e.account) [
  | yes o ↦ o
  | no o ↦ let q : e.account ≡ 0 = omega arith in absurd (omega (arith, rw q at (listed_some es e m)))
]

module _ {n : ℕ} {ts : List Tile} (v : Valid n ts) where
  pub covered_rows : (a : ℕ) → 1 ≤ a → covered a ts ≡ occurs a (rows n (account_at ts))
  covered_rows a o = covered_pixels a v o ∙ sym (occurs_rows a n (account_at ts))

  entries_rows : (a : ℕ) → 1 ≤ a → entries_of (covered a ts) ≡ entries_of (occurs a (rows n (account_at ts)))
  entries_rows a o = ap (λ (x : ℕ). entries_of x) (covered_rows a o)

  nobody_none : entries_of (covered 0 ts) ≡ 0
  nobody_none = if_no 1 0 (test_leb 1 (covered 0 ts)) (λ c. omega (arith, covered_nobody v))

  module _ {es : List Entry} where
    right_tallies : Right ts es → Tallies (rows n (account_at ts)) es
    right_tallies r = record {
      totals = λ e m. r.pixels e m ∙ covered_rows e.account (somebody (r.once 0 ∙ nobody_none) e m);
      once = λ a o. r.once a ∙ entries_rows a o;
      nobody = r.once 0 ∙ nobody_none;
    }

    tallies_right : Tallies (rows n (account_at ts)) es → Right ts es
    tallies_right t = record {
      pixels = λ e m. t.totals e m ∙ sym (covered_rows e.account (somebody t.nobody e m));
      once = once;
    }
      where
        once : (a : ℕ) → listed a es ≡ entries_of (covered a ts)
        once zero = t.nobody ∙ sym nobody_none
        once (suc a) = t.once (suc a) (omega arith) ∙ sym (entries_rows (suc a) (omega arith))

    pub good_tallies : (roster_good ts es ≡ true) ↔ Tallies (rows n (account_at ts)) es
    good_tallies = (λ g. right_tallies (told_true (test_good ts es) g), λ t. test_true (test_good ts es) (tallies_right t))

-- what a linear quadtree shows, by rows, is its raster
shown_rows : (n : ℕ) (f : ℕ → ℕ) → rows n (account_at (quadtree n f)) ≡ rows n f
shown_rows n f = rows_cong n (account_at (quadtree n f)) f (quadtree_shown n f)

-- what decoding a valid list leaves
pub decoded_rows : (n t : ℕ) (slots raster : List ℕ) → list_check n t slots ≡ accepted → length raster ≡ 4 ^ n → (decode_of n t slots raster).storage ≡ rows n (account_at (tiles_in t slots))
decoded_rows n t slots raster e l = ap (λ (x : After ℕ). x.storage) (decode_of_filled n t slots raster e l)

written_tallies : (scan : Scan) (slots file raster : List ℕ) → write_check scan slots file ≡ accepted → length raster ≡ 4 ^ scan.order →
    Tallies (decode_of scan.order scan.tiles slots raster).storage (file_entries (take (write_of scan slots file).answer.length (write_of scan slots file).storage))
written_tallies scan slots file raster e l =
    let n = scan.order in
    let t = scan.tiles in
    let v = (write_passed scan slots file e).opened in
    let list = (list_check_valid n t slots).1 (v.order, v.count, v.valid) in
    rw (decoded_rows n t slots raster list l, written_file scan slots file e, file_of_entries n (tiles_in t slots) v.order v.valid (slots_accounts t slots))
    ((good_tallies v.valid).0 (roster_of_good v.valid (slots_accounts t slots)))

-- a roster section that is accepted, or refused by 43, is judged by its entries
module _ (ts : List Tile) (section : List ℕ) where
  abbrev entries : List Entry
  entries = entries_at (get_or section 0 0) section 1

  roster_right : roster_check ts section ≡ accepted → Right ts entries
  roster_right e = (must_inv (test_good ts entries) (omega arith) (behind_all ts section (λ q. omega arith) (λ q. omega arith) (λ q. omega arith) e).rest).0

  roster_wrong_lem : roster_check ts section ≡ roster_wrong → Right ts entries → ⊥
  roster_wrong_lem e r = omega (arith, (behind_all ts section (λ q. omega arith) (λ q. omega arith) (λ q. omega arith) e).rest, must_on roster_wrong accepted (test_good ts entries) r)

refused_tallies : (m : ℕ) (file : List ℕ) → file_check m file ≡ roster_wrong → Tallies (rows (file_order file) (account_at (map tile_of (file_words file)))) (file_entries file) → ⊥
refused_tallies m file e t = let w = read_of_wrong m file e in roster_wrong_lem _ _ w.roster (tallies_right w.valid t)

-- what a reading leaves passes the list checks, and is decoded
module _ (file slots : List ℕ) (e : file_check (length slots) file ≡ accepted) where
  reading : Passed (length slots) file accepted
  reading = read_of_valid (length slots) file e

  abbrev pub left : List ℕ
  left = file_words file ++ replicate (length slots - file_count file) 0

  pub tiles_left_lem : tiles_in (file_count file) left ≡ map tile_of (file_words file)
  unfolding tiles_in
  tiles_left_lem = ap (λ (ws : List ℕ). map tile_of ws) (take_at (file_words file) (replicate (length slots - file_count file) 0) (file_count file) reading.length_words)

  pub left_accepted : list_check (file_order file) (file_count file) left ≡ accepted
  left_accepted = (list_check_valid (file_order file) (file_count file) left).1
      (reading.order, omega (arith, length-append (file_words file) (replicate (length slots - file_count file) 0), reading.length_words), rw tiles_left_lem reading.valid)

  read_tallies : (raster : List ℕ) → length raster ≡ 4 ^ file_order file → Tallies (decode_of (file_order file) (file_count file) left raster).storage (file_entries file)
  read_tallies raster l = rw (decoded_rows (file_order file) (file_count file) left raster left_accepted l, tiles_left_lem) (right_tallies reading.valid (roster_right _ _ reading.roster))

pub account_totals : Totals
account_totals = record {
  list = λ n f ts a l o. rw (linear_unique l) (covered_rows (quadtree_valid n f) a o ∙ ap (occurs a) (shown_rows n f));
  decoded = λ n t slots raster a e l o. covered_rows ((list_check_valid n t slots).0 e).2 a o ∙ ap (occurs a) (sym (decoded_rows n t slots raster e l));
  roster = λ n f ts es l. rw (linear_unique l, ← shown_rows n f) (good_tallies (quadtree_valid n f));
  written = written_tallies;
  read = λ file slots raster e l. rw (read_of_accepted file slots e) (read_tallies file slots e raster (rw (read_of_accepted file slots e) at l));
  refused = refused_tallies;
}
