-- Reading a written file yields the same order and list.
--     low               the words of a valid list fit 32 bits
--     count_back, order_back, tiles_back   tile count, order and tiles of the file of a valid list
--     file_of_entries    its entries are the list's roster
--     file_of_accepted   the reader accepts the file of a valid list where there are slots for it
--     read_write        and leaves the list in the slots, with its order and its tile count
--     tiles_accounts    the tiles of words have accounts up to the highest; slots-accounts, so have those of words in slots
--     write_number      the writer's number is that of its checks
--     write_passed      what is known past the writer's checks; written-file, what it then leaves
--     read_written      the same of the two calls: what an accepted write left is read
--     written_whole     and its record is the one written, but for the kind
--     writes_scanned    the writer answers 52 just where a pixel is unscanned
use mathlib.Core.Path.{◌≡◌, refl, ap, sym, ◌∙◌}
use mathlib.Core.Logic.{◌↔◌}
use mathlib.Core.List.{List, [], ◌∷◌, map, append-nil, Memᴰ}
use Prim.Native.Nat.{ℕ, ◌+◌, ◌*◌, ◌^◌, ◌≤◌, ◌<◌}
use native.Mathlib.Omega.{arith}
use lib.ListN.{length, take, drop, length-map}
use lib.Dec.{leb}
use lib.Seq.{drop-drop, drop_at, take_at}
use Rattle.basics.proofs.Tests.{test_leb}
use Rattle.refusal.specs.Refusal.{accepted, bytes_too_few, unscanned}
use Rattle.refusal.specs.Checks.{After}
use Rattle.refusal.proofs.CheckLaws.{must_inv, must_not, else_on, else_off, else_inv, unless_number}
use Rattle.tile.specs.declared.Tile.{Tile}
use Rattle.tile.specs.Tile.{tile_of, word_of, highest_order, highest_account}
use Rattle.tile.specs.Slots.{tiles_in, filled}
use Rattle.tile.proofs.TileLaws.{Packable, tile_of_account, word_of_low}
use Rattle.tile.proofs.SlotsLaws.{tiles_words, length_tiles_in, filled_tiles_in}
use Rattle.quadtree.specs.Raster.{◌∈◌}
use Rattle.quadtree.specs.Valid.{Valid}
use Rattle.quadtree.proofs.Alignment.{area_mono}
use Rattle.quadtree.proofs.ValidLaws.{valid_quadrant, valid_length}
use Rattle.list_check.specs.ListCheck.{words_check}
use Rattle.list_check.proofs.Accepts.{words_check_valid}
use Rattle.bed.specs.declared.Scan.{Scan}
use Rattle.bed.specs.Places.{scan_of, place_of}
use Rattle.bed.proofs.ScannedBlocks.{AllScanned}
use Rattle.scan_check.specs.Opened.{Opened}
use Rattle.scan_check.specs.Scanned.{finished_check}
use Rattle.scan_check.proofs.ScannedLaws.{finished_passed, finished_refused, finished_all}
use Rattle.scan_check.proofs.Opening.{opening_opened}
use Rattle.mapfile_bytes.specs.Items.{word_at, words_at}
use Rattle.mapfile_bytes.proofs.ItemsLaws.{word_whole}
use Rattle.mapfile_roster.specs.declared.Entry.{Entry}
use Rattle.mapfile_roster.specs.Roster.{roster_of}
use Rattle.mapfile_roster.proofs.CoveredLaws.{covered_fits}
use Rattle.mapfile_roster.proofs.RosterLaws.{roster_of_rising, roster_of_good, roster_of_pixels}
use Rattle.mapfile_read.specs.Reader.{file_order, file_count, file_check, read_of}
use Rattle.mapfile_read.proofs.ReaderLaws.{file_check_roster, tiles_check_words, read_of_accepted}
use Rattle.mapfile_sections.specs.Sections.{words_bytes, entries_bytes}
use Rattle.mapfile_write.specs.declared.WriteAnswer.{WriteAnswer}
use Rattle.mapfile_write.specs.Writer.{file_of, ready_check, write_check, write_of}
use Rattle.mapfile_write.proofs.WriterLaws.{length_words_bytes, file_of_bytes, write_of_accepted, ready_opened}
use Rattle.mapfile_laws.specs.RoundTrip.{ReadWritten, WrittenWhole, WritesScanned}
use Rattle.mapfile_laws.specs.Totals.{file_entries}
use Rattle.mapfile_laws.proofs.Back.{words_back, entries_back, roster_back}

module _ (n : ℕ) (ts : List Tile) (o : n ≤ highest_order) (v : Valid n ts) (a : (t : Tile) → t ∈ ts → t.account ≤ highest_account) where
  packable : (t : Tile) → t ∈ ts → Packable t
  packable t m = record { size = omega (arith, (valid_quadrant v m).fits); account = a t m }

  pub low : (t : Tile) → t ∈ ts → word_of t < 2 ^ 32
  low t m =
      let l : 4 ^ n ≤ 4 ^ highest_order = area_mono o in
      let p = packable t m in
      omega (arith, word_of_low t (omega (arith, (valid_quadrant v m).inside)) p.size p.account)

  pub count_back : file_count (file_of n ts) ≡ length ts
  unfolding file_of word_at
  count_back = let l : 4 ^ n ≤ 4 ^ highest_order = area_mono o in word_whole (length ts) (omega (arith, valid_length v))

  pub order_back : file_order (file_of n ts) ≡ n
  unfolding file_of
  order_back = refl

  list_back : words_at (length ts) (file_of n ts) 5 ≡ map word_of ts
  unfolding file_of
  list_back = words_back ts (file_of n ts) (length (roster_of ts) ∷ entries_bytes (roster_of ts)) 5 low refl

  pub tiles_back : map tile_of (words_at (length ts) (file_of n ts) 5) ≡ ts
  tiles_back = ap (λ (ws : List ℕ). map tile_of ws) list_back ∙ tiles_words ts packable

  rest_back : drop (5 + 4 * length ts) (file_of n ts) ≡ length (roster_of ts) ∷ entries_bytes (roster_of ts)
  unfolding file_of
  rest_back = sym (drop-drop (4 * length ts) 5 (file_of n ts)) ∙ drop_at (words_bytes (map word_of ts)) _ (4 * length ts) (omega (arith, length_words_bytes (map word_of ts), length-map ts word_of))

  words_pass : words_check n [] (words_at (length ts) (file_of n ts) 5) ≡ accepted
  words_pass = (words_check_valid n o (words_at (length ts) (file_of n ts) 5)).1 (rw tiles_back v)

  entry_low : (e : Entry) → Memᴰ e (roster_of ts) → e.pixels < 2 ^ 32
  entry_low e m = omega (arith, roster_of_pixels ts e m, covered_fits e.account o v)

  pub file_of_entries : file_entries (file_of n ts) ≡ roster_of ts
  file_of_entries = rw (count_back, rest_back) (entries_back (roster_of ts) (length (roster_of ts) ∷ entries_bytes (roster_of ts)) [] 1 entry_low (sym (append-nil (entries_bytes (roster_of ts)))))

  pub file_of_accepted : (m : ℕ) → length ts ≤ m → file_check m (file_of n ts) ≡ accepted
  file_of_accepted m c =
      file_check_roster m (file_of n ts) (omega (arith, file_of_bytes n ts)) (rw order_back o) (rw count_back c)
      (rw (order_back, count_back) (tiles_check_words n (length ts) [] (file_of n ts) 5 (omega (arith, file_of_bytes n ts)) words_pass))
      ∙ rw (count_back, tiles_back, rest_back) (roster_back ts (roster_of ts) (roster_of_rising ts) (roster_of_good v a) entry_low)

  pub read_write : (slots : List ℕ) → length ts ≤ length slots →
      read_of (file_of n ts) slots ≡ record { answer = record { number = accepted; order = n; tiles = length ts }; storage = filled (length slots) ts }
  unfolding filled
  read_write slots c = read_of_accepted (file_of n ts) slots (file_of_accepted (length slots) c) ∙ rw (order_back, count_back, list_back)

pub tiles_accounts : (ws : List ℕ) (t : Tile) → t ∈ map tile_of ws → t.account ≤ highest_account
tiles_accounts (w ∷ ws) t (Memᴰ.head e) = rw e (tile_of_account w)
tiles_accounts (w ∷ ws) t (Memᴰ.tail m) = tiles_accounts ws t m
tiles_accounts [] t x' = elim x' [ ]

pub slots_accounts : (t : ℕ) (slots : List ℕ) (u : Tile) → u ∈ tiles_in t slots → u.account ≤ highest_account
unfolding tiles_in
slots_accounts t slots u m = tiles_accounts (take t slots) u m

-- past the writer's checks the list is valid, and its file fits
pub record Writes (scan : Scan) (slots file : List ℕ) : Type 0 where
  pub ready : ready_check scan slots ≡ accepted
  pub opened : Opened scan slots
  pub fits : length (file_of scan.order (tiles_in scan.tiles slots)) ≤ length file

pub write_passed : (scan : Scan) (slots file : List ℕ) → write_check scan slots file ≡ accepted → Writes scan slots file
unfolding write_check
write_passed scan slots file e =
    let a = else_inv (ready_check scan slots) _ e in
    let b = must_inv (test_leb (length (file_of scan.order (tiles_in scan.tiles slots))) (length file)) (omega arith) a.1 in
    record { ready = a.0; opened = ready_opened scan slots a.0; fits = b.0 }

pub written_file : (scan : Scan) (slots file : List ℕ) → write_check scan slots file ≡ accepted →
    take (write_of scan slots file).answer.length (write_of scan slots file).storage ≡ file_of scan.order (tiles_in scan.tiles slots)
written_file scan slots file e =
    let w = write_passed scan slots file e in
    let bytes = file_of scan.order (tiles_in scan.tiles slots) in
    rw (write_of_accepted scan slots file w.ready w.fits) (take_at bytes (drop (length bytes) file) (length bytes) refl)

pub read_written : ReadWritten
read_written scan slots file others e c =
    let n = scan.order in
    let t = scan.tiles in
    let v = (write_passed scan slots file e).opened in
    let l = length_tiles_in t slots v.count in
    rw (written_file scan slots file e)
    (read_write n (tiles_in t slots) v.order v.valid (slots_accounts t slots) others (omega arith) ∙ rw (l, filled_tiles_in (length others) t slots v.count))

pub write_number : (scan : Scan) (slots file : List ℕ) → (write_of scan slots file).answer.number ≡ write_check scan slots file
unfolding write_of
write_number scan slots file = unless_number (λ (x : After WriteAnswer). x.answer.number) (write_check scan slots file) (λ r. refl) refl

pub written_whole : WrittenWhole
unfolding ready_check
written_whole scan slots file others e c =
    let p = sym (write_number scan slots file) ∙ e in
    let whole = finished_passed scan (else_inv _ _ (write_passed scan slots file p).ready).1 in
    rw (read_written scan slots file others p c) (ap (λ (s : ℕ). scan_of scan.kind scan.order s scan.tiles) (sym whole))

pub writes_scanned : WritesScanned
unfolding write_check ready_check
writes_scanned scan slots file e = (there, back)
  where
    w : (finished_check scan ≡ accepted) ↔ AllScanned scan.kind scan.order scan.pixels 0 scan.order
    w = finished_all scan (opening_opened scan slots e).scanned

    bytes : List ℕ
    bytes = file_of scan.order (tiles_in scan.tiles slots)

    there : (write_of scan slots file).answer.number ≡ unscanned → ((z : ℕ) → z < 4 ^ scan.order → place_of scan.kind scan.order z < scan.pixels) → ⊥
    there q a =
        let p = sym (write_number scan slots file) ∙ q in
        let r = else_on _ _ e ∙ w.1 (λ z l h. a z (omega arith)) in
        must_not (leb (length bytes) (length file)) bytes_too_few accepted (λ x. omega arith) (λ x. omega arith) (sym (else_on _ _ r) ∙ p)

    back : (((z : ℕ) → z < 4 ^ scan.order → place_of scan.kind scan.order z < scan.pixels) → ⊥) → (write_of scan slots file).answer.number ≡ unscanned
    back none =
        let r = else_on _ _ e ∙ finished_refused scan (λ x. none (λ z h. w.0 x z (omega arith) (omega arith))) in
        write_number scan slots file ∙ else_off _ _ (λ x. omega (arith, r)) ∙ r
