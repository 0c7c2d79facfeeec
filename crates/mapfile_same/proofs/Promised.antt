-- What is promised of one map and one file.
--     same_then    beds that are the same as one are the same
--     list_file    the file of a valid list is a file of any bed that the list shows
--     files_same   files of two beds are equal exactly when the beds are the same
--     one_file     the promise
use mathlib.Core.Path.{◌≡◌, refl, ap, ap₂, sym, ◌∙◌}
use mathlib.Core.List.{List}
use mathlib.Core.Logic.{◌↔◌}
use Prim.Native.Nat.{ℕ, ◌^◌, ◌≤◌, ◌<◌}
use native.Mathlib.Nat.{le_refl}
use native.Mathlib.Omega.{arith}
use lib.ListN.{length, get_or, replicate, length-replicate}
use Rattle.refusal.specs.Refusal.{accepted}
use Rattle.refusal.proofs.CheckLaws.{else_on, else_inv}
use Rattle.tile.specs.declared.Tile.{Tile}
use Rattle.tile.specs.Tile.{highest_order, highest_account}
use Rattle.tile.specs.Slots.{tiles_in}
use Rattle.quadtree.specs.Raster.{account_at, ◌∈◌}
use Rattle.quadtree.specs.Quadtree.{quadtree}
use Rattle.quadtree.specs.Valid.{Valid}
use Rattle.quadtree.proofs.ValidLaws.{quadtree_valid, quadtree_shown, valid_unique}
use Rattle.quadtree.proofs.Linear.{quadtree_low}
use Rattle.bed.specs.declared.Kind.{Kind}
use Rattle.bed.specs.declared.Kind.TheVariants.{Rows}
use Rattle.bed.specs.declared.Scan.{Scan}
use Rattle.bed.specs.Places.{scan_of, place_of, rows}
use Rattle.bed.specs.Bed.{Bed}
use Rattle.bed.specs.Shown.{shown_bed}
use Rattle.bed.proofs.PlaceLaws.{place_of_lt, pixel_at_place_of, rows_at}
use Rattle.scan_check.specs.Opening.{opening}
use Rattle.scan_check.proofs.ScannedLaws.{finished_all}
use Rattle.scan_check.proofs.Opening.{opening_opened, opened_opening}
use Rattle.mapfile_read.specs.declared.ReadAnswer.{ReadAnswer}
use Rattle.mapfile_read.specs.Reader.{file_order, file_count, file_check, read_bed, read_of}
use Rattle.mapfile_read.proofs.ReaderLaws.{Passed, read_of_valid, read_of_accepted}
use Rattle.mapfile_write.specs.Writer.{file_of, ready_check, write_of}
use Rattle.mapfile_write.proofs.WriterLaws.{write_of_accepted, ready_opened}
use Rattle.mapfile_laws.proofs.RoundTrip.{count_back, order_back, tiles_back, file_of_accepted, slots_accounts, write_number, write_passed, written_file}
use Rattle.mapfile_laws.proofs.Totals.{left, tiles_left_lem, left_accepted, decoded_rows}
use Rattle.mapfile_sorted.specs.Sorted.{tiles_of, ReadsSorted}
use Rattle.mapfile_sorted.proofs.Promised.{read_number, reads_sorted}
use Rattle.mapfile_same.specs.Same.{Bytes, ReaderAccepts, decoded, SameBed, Finished, BedFile, written, wrote, OneFile}
use Rattle.mapfile_same.proofs.ByteLaws.{file_of_is_bytes}
use Rattle.mapfile_same.proofs.Made.{file_bytes}

-- an accepted file
module _ (file slots : List ℕ) (e : ReaderAccepts file slots) where
  checked : file_check (length slots) file ≡ accepted
  checked = sym (read_number file slots) ∙ e

  passed : Passed (length slots) file accepted
  passed = read_of_valid (length slots) file checked

  answer_read : (read_of file slots).answer ≡ record { number = accepted; order = file_order file; tiles = file_count file }
  answer_read = rw (read_of_accepted file slots checked)

  order_read : (read_of file slots).answer.order ≡ file_order file
  order_read = ap (λ (r : ReadAnswer). r.order) answer_read

  tiles_read : (read_of file slots).answer.tiles ≡ file_count file
  tiles_read = ap (λ (r : ReadAnswer). r.tiles) answer_read

  decoded_read : (raster : List ℕ) → length raster ≡ 4 ^ (read_of file slots).answer.order → decoded file slots raster ≡ rows (file_order file) (account_at (tiles_of file))
  decoded_read raster l =
      let k : length raster ≡ 4 ^ file_order file = rw order_read at l in
      rw (decoded, read_of_accepted file slots checked)
      (decoded_rows (file_order file) (file_count file) (left file slots checked) raster (left_accepted file slots checked) k ∙ rw (tiles_left_lem file slots checked))

  enough : (others : List ℕ) → file_count file ≤ length others → ReaderAccepts file others
  unfolding ReadsSorted
  enough others h =
      let p = (reads_sorted file slots).accepts.0 e in
      (reads_sorted file others).accepts.1 (record { head = p.0.head; order = p.0.order; slots = h; words = p.0.words }, p.1, p.2)

-- two accepted files
same_bytes : (file other slots others : List ℕ) → Bytes file → Bytes other → ReaderAccepts file slots → ReaderAccepts other others → (file ≡ other) ↔ SameBed (read_bed file) (read_bed other)
same_bytes file other slots others b c e f = (
  λ q. record { order = ap file_order q; account = λ z h. ap (λ (x : List ℕ). (read_bed x).account z) q },
  λ s. file_bytes file slots b e ∙ ap₂ file_of s.order (same_list s) ∙ sym (file_bytes other others c f),
)
  where
    same_list : SameBed (read_bed file) (read_bed other) → tiles_of file ≡ tiles_of other
    same_list s = valid_unique (passed file slots e).valid (rw s.order (passed other others f).valid) (λ z h. s.account z (omega arith))

-- the same of rasters by rows, which have each pixel's account
rows_same : (n m : ℕ) (f g : ℕ → ℕ) → n ≡ m → rows n f ≡ rows m g → (z : ℕ) → z < 4 ^ n → f z ≡ g z
rows_same n m f g q e z h = sym (at n f h) ∙ ap (λ (xs : List ℕ). get_or xs (place_of Rows n z) 0) e ∙ rw (← q) (at n g h)
  where
    at : (n : ℕ) (f : ℕ → ℕ) → z < 4 ^ n → get_or (rows n f) (place_of Rows n z) 0 ≡ f z
    at n f h = rows_at n f (place_of Rows n z) (place_of_lt Rows n z h) ∙ ap f (pixel_at_place_of Rows n z h)

same_decoded : (file other slots others : List ℕ) → Bytes file → Bytes other → ReaderAccepts file slots → ReaderAccepts other others → file_order file ≡ file_order other →
    rows (file_order file) (account_at (tiles_of file)) ≡ rows (file_order other) (account_at (tiles_of other)) → file ≡ other
same_decoded file other slots others b c e f q r =
    (same_bytes file other slots others b c e f).1 (record { order = q; account = rows_same (file_order file) (file_order other) (account_at (tiles_of file)) (account_at (tiles_of other)) q r })

-- the file of a list, and of any bed with these accounts
module _ (n : ℕ) (ts : List Tile) (o : n ≤ highest_order) (v : Valid n ts) (a : (t : Tile) → t ∈ ts → t.account ≤ highest_account) where
  list_file : (b : Bed) → Finished b → n ≡ b.order → ((z : ℕ) → z < 4 ^ n → account_at ts z ≡ b.account z) → BedFile b (file_of n ts)
  list_file b w q e = record {
    scanned = w;
    bytes = file_of_is_bytes n ts o v a;
    accepts = λ slots h. read_number (file_of n ts) slots ∙ file_of_accepted n ts o v a (length slots) (omega (arith, h, count_back n ts o v a));
    bed = record {
      order = order_back n ts o v a ∙ q;
      account = λ z h. shown z ∙ e z (rw (order_back n ts o v a) at h);
    };
  }
    where
      shown : (z : ℕ) → (read_bed (file_of n ts)).account z ≡ account_at ts z
      shown z = rw (count_back n ts o v a, tiles_back n ts o v a)

-- past the opening checks a wholly scanned map is ready, and a map that is ready is wholly scanned
ready : (scan : Scan) (slots : List ℕ) → opening scan slots ≡ accepted → Finished (shown_bed scan slots) → ready_check scan slots ≡ accepted
unfolding ready_check
ready scan slots e w = else_on _ _ e ∙ (finished_all scan (opening_opened scan slots e).scanned).1 (λ z l h. w z (omega arith))

ready_whole : (scan : Scan) (slots : List ℕ) → ready_check scan slots ≡ accepted → Finished (shown_bed scan slots)
unfolding ready_check
ready_whole scan slots r z h = (finished_all scan (ready_opened scan slots r).scanned).0 (else_inv _ _ r).1 z (omega arith) (omega arith)

ready_file : (scan : Scan) (slots : List ℕ) → ready_check scan slots ≡ accepted → BedFile (shown_bed scan slots) (file_of scan.order (tiles_in scan.tiles slots))
ready_file scan slots r =
    let v = ready_opened scan slots r in
    list_file scan.order (tiles_in scan.tiles slots) v.order v.valid (slots_accounts scan.tiles slots) (shown_bed scan slots) (ready_whole scan slots r) refl (λ z h. refl)

-- a map that was read
written_again : (file slots lent : List ℕ) (kind : Kind) → Bytes file → ReaderAccepts file slots → length file ≤ length lent →
    let r = read_of file slots in
    write_of (scan_of kind r.answer.order (4 ^ r.answer.order) r.answer.tiles) r.storage lent ≡ wrote file lent
written_again file slots lent kind b e h = rw (read_of_accepted file slots c) (write_of_accepted scan list lent r (rw (← same) h) ∙ rw (← same))
  where
    c : file_check (length slots) file ≡ accepted
    c = checked file slots e

    list : List ℕ
    list = left file slots c

    scan : Scan
    scan = scan_of kind (file_order file) (4 ^ file_order file) (file_count file)

    same : file ≡ file_of (file_order file) (tiles_in (file_count file) list)
    same = rw (tiles_left_lem file slots c) (file_bytes file slots b e)

    whole : Finished (shown_bed scan list)
    whole z h = place_of_lt kind (file_order file) z h

    r : ready_check scan list ≡ accepted
    r = ready scan list (opened_opening scan list (left_accepted file slots c) (le_refl _) (λ z h l. absurd (omega (arith, whole z h)))) whole

-- beds that are the same
same_back : {a b : Bed} → SameBed a b → SameBed b a
same_back s = record { order = sym s.order; account = λ z h. sym (s.account z (rw s.order h)) }

pub same_then : {a b c : Bed} → SameBed a b → SameBed b c → SameBed a c
same_then s t = record { order = s.order ∙ t.order; account = λ z h. s.account z h ∙ t.account z (rw (← s.order) h) }

-- files of two beds
pub files_same : {a b : Bed} (file other : List ℕ) → BedFile a file → BedFile b other → (file ≡ other) ↔ SameBed a b
files_same {a} {b} file other f g = (
  λ q. same_then (same_back f.bed) (same_then (w.0 q) g.bed),
  λ s. w.1 (same_then f.bed (same_then s (same_back g.bed))),
)
  where
    room : List ℕ → List ℕ
    room file = replicate (file_count file) 0

    read : {b : Bed} (file : List ℕ) → BedFile b file → ReaderAccepts file (room file)
    read file f = f.accepts (room file) (omega (arith, length-replicate {A = ℕ} (file_count file) 0))

    w : (file ≡ other) ↔ SameBed (read_bed file) (read_bed other)
    w = same_bytes file other (room file) (room other) f.bytes g.bytes (read file f) (read other g)

only_file : (b : Bed) → b.order ≤ highest_order → ((z : ℕ) → z < 4 ^ b.order → b.account z ≤ highest_account) → Finished b → (file : List ℕ) × BedFile b file × ((other : List ℕ) → BedFile b other → other ≡ file)
only_file b o a w = (file_of b.order ts, f, λ other g. (files_same other (file_of b.order ts) g f).1 (record { order = refl; account = λ z h. refl }))
  where
    ts : List Tile
    ts = quadtree b.order b.account

    f : BedFile b (file_of b.order ts)
    f = list_file b.order ts o (quadtree_valid b.order b.account) (quadtree_low b.order b.account highest_account a) b w refl (quadtree_shown b.order b.account)

pub one_file : OneFile
one_file = record {
  same = λ file other slots others b c e f. same_bytes file other slots others b c e f;
  decodes = λ file other slots others raster image b c e f l m.
      let p = order_read file slots e in
      let q = order_read other others f in
      let x = decoded_read file slots e raster l in
      let y = decoded_read other others f image m in (
        λ i. (p ∙ ap file_order i ∙ sym q, x ∙ ap (λ (z : List ℕ). rows (file_order z) (account_at (tiles_of z))) i ∙ sym y),
        λ i. same_decoded file other slots others b c e f (sym p ∙ i.0 ∙ q) (sym x ∙ i.1 ∙ y),
      );
  slots = λ file slots others e.
      let t = tiles_read file slots e in (
        λ q. omega (arith, t, (passed file others (ap (λ (r : ReadAnswer). r.number) q ∙ e)).count),
        λ h. answer_read file others (enough file slots e others (omega (arith, t, h))) ∙ sym (answer_read file slots e),
      );
  file = λ scan slots lent e.
      let c = sym (write_number scan slots lent) ∙ e in
      rw (written, written_file scan slots lent c) (ready_file scan slots (write_passed scan slots lent c).ready);
  every = λ scan slots e w.
      let r = ready scan slots e w in
      (file_of scan.order (tiles_in scan.tiles slots), ready_file scan slots r, λ lent h. write_of_accepted scan slots lent r (omega arith));
  again = λ file slots lent kind b e h. written_again file slots lent kind b e (omega arith);
  one = λ b o a w. let f = only_file b (omega arith) (λ z h. omega (arith, a z h)) w in (f.0, f.1, λ other g. f.2 other g);
}
