-- How much of an input is read, and how much is lent for its listing.
--     listing_read    input past `input_bytes` changes no listing
--     listing_fits    every listing fits `listing_bytes`
--     whole_listed    a listing of what was read, in so many bytes, is the listing of the whole input
use mathlib.Core.Path.{◌≡◌, refl, ap, sym, ◌∙◌}
use mathlib.Core.List.Memᴰ
use mathlib.Core.List.{List, [], ◌∷◌, ◌++◌}
use Prim.Native.Nat.{ℕ, zero, suc, ◌+◌, ◌-◌, ◌*◌, ◌^◌, ◌≤◌, ◌<◌}
use native.Mathlib.Omega.{arith}
use lib.ListN.{length, take, drop, replicate, length-append}
use Rattle.basics.proofs.Tests.{test_leb}
use Rattle.basics.proofs.ChoiceLaws.{if_yes, if_no, by_if}
use Rattle.refusal.specs.Refusal.{accepted, order_too_large, file_cut_short}
use Rattle.refusal.specs.Checks.{After}
use Rattle.refusal.proofs.CheckLaws.{by_unless, unless_alike}
use Rattle.tile.specs.declared.Tile.{Tile}
use Rattle.tile.specs.Tile.{highest_order, highest_account}
use Rattle.tile.specs.Slots.{tiles_in, filled}
use Rattle.tile.proofs.SlotsLaws.{tiles_in_filled}
use Rattle.quadtree.specs.Raster.{account_at, ◌∈◌}
use Rattle.quadtree.specs.Quadtree.{quadtree}
use Rattle.quadtree.proofs.Alignment.{area_mono}
use Rattle.quadtree.proofs.Blocks.{blank_quadtree}
use Rattle.quadtree.proofs.Linear.{quadtree_largest, quadtree_low}
use Rattle.bed.specs.declared.Kind.TheVariants.{Rows}
use Rattle.bed.specs.declared.Scan.{Scan}
use Rattle.bed.specs.Places.{scan_of}
use Rattle.bed.specs.Bed as bed
use Rattle.bed.specs.Bed.{Bed, bed_of, put_pixel, pixel_check, feed_pixels}
use Rattle.bed.specs.Shown.{shown_bed}
use Rattle.bed.proofs.BedLaws.{Good, pixel_check_passed, FedAlike, feed_pixels_alike}
use Rattle.scan_check.specs.Opening.{opening}
use Rattle.scan.specs.Feed.{Fed, fed_to, feed_of}
use Rattle.decimal.specs.Decimal.{digits_most}
use Rattle.decimal.proofs.DecimalLaws.{digits_by_below}
use Rattle.decimal.proofs.LinesLaws.{pair_line_most, triple_line_length}
use Rattle.listing.specs.Listing.{Listed, bed_word, tiles_word, stop_word, taken_word, bed_line, tile_line, tile_lines, stop_line, listed_order, listed_slots, row_fed, fed_listing, listing, listed_to, listed_in, list_of}
use Rattle.listing.specs.Answers.{listed}
use Rattle.std.specs.Prelude.{Result, Ok, Err}
use Rattle.std.specs.Result.{result_unwrap_or}
use Rattle.refusal.specs.declared.Refusal.{Refusal}
use Rattle.listing_whole.specs.Whole.{input_bytes, listing_bytes, Whole}
use Rattle.listing.proofs.LineLaws.{tile_lines_most}
use Rattle.listing.proofs.LentLaws.{listed_in_room}
use Rattle.listing.proofs.ScannedLaws.{fresh_of_accepted}

-- what is read: a feed goes no further than the first byte past the bed

module _ (m : ℕ) where
  pixel_read : (k : ℕ) (b : Bed) (a : ℕ) (some all : List ℕ) →
      ((b.scanned ≡ 4 ^ b.order → ⊥) → feed_pixels m (k + 1) (put_pixel b a) some ≡ feed_pixels m (k + 1) (put_pixel b a) all) →
      feed_pixels m k b (a ∷ some) ≡ feed_pixels m k b (a ∷ all)
  unfolding feed_pixels
  pixel_read k b a some all rest = unless_alike (λ (p q : bed.BedFed). p ≡ q) (pixel_check m b a) (λ r. refl) (λ e. rest (pixel_check_passed e).going)

  feed_pixels_read : (k j : ℕ) (b : Bed) (bytes : List ℕ) → b.scanned ≤ 4 ^ b.order → 4 ^ b.order < b.scanned + j →
      feed_pixels m k b (take j bytes) ≡ feed_pixels m k b bytes
  unfolding put_pixel
  feed_pixels_read k zero b bytes l h = absurd (omega arith)
  feed_pixels_read k (suc j) b [] l h = refl
  feed_pixels_read k (suc j) b (a ∷ bytes) l h =
      pixel_read k b a (take j bytes) bytes (λ full. feed_pixels_read (k + 1) j (put_pixel b a) bytes (omega arith) (omega arith))

feed_of_read : (c : Scan) (slots : List ℕ) (j : ℕ) (bytes : List ℕ) → c.pixels ≤ 4 ^ c.order → 4 ^ c.order < c.pixels + j →
    feed_of c slots (take j bytes) ≡ feed_of c slots bytes
unfolding feed_of
feed_of_read c slots j bytes l h = rw (feed_pixels_read (length slots) 0 j (shown_bed c slots) bytes l h)

row_fed_read : (n j : ℕ) (accounts : List ℕ) → n ≤ listed_order → 4 ^ listed_order < j → row_fed n (take j accounts) ≡ row_fed n accounts
row_fed_read n j accounts l h =
    let g : 4 ^ n ≤ 4 ^ listed_order = area_mono {k = listed_order} l in
    rw (fresh_of_accepted Rows n (replicate listed_slots 0) (omega arith)) (feed_of_read (scan_of Rows n 0 0) _ j accounts (omega arith) (omega arith))

pub listing_read : (input : List ℕ) → listing (take input_bytes input) ≡ listing input
unfolding listing
listing_read [] = refl
listing_read (n ∷ accounts) =
    by_if (λ (bytes : List ℕ). bytes ≡ listing (n ∷ accounts)) (test_leb n listed_order)
    (λ l. ap fed_listing (row_fed_read n (input_bytes - 1) accounts l (omega arith)) ∙ sym (if_yes _ _ (test_leb n listed_order) l))
    (λ l. sym (if_no _ _ (test_leb n listed_order) l))

-- what is lent: the tiles of a listed bed have short lines, and there are no more of them than slots

record Low (t : Tile) : Type 0 where
  corner : t.corner < 4 ^ listed_order
  size : t.size ≤ listed_order
  account : t.account ≤ highest_account

-- four digits, one and two, with a space or a line feed behind each
abbrev line_most : ℕ
line_most = 10

low_line : (t : Tile) → Low t → length (tile_line t) ≤ line_most
unfolding tile_line
low_line t l =
    omega (
      arith,
      triple_line_length t.corner t.size t.account,
      digits_by_below 4 digits_most t.corner (omega arith) (omega (arith, l.corner)),
      digits_by_below 1 digits_most t.size (omega arith) (omega (arith, l.size)),
      digits_by_below 2 digits_most t.account (omega arith) (omega (arith, l.account)),
    )

-- two words of at most twelve bytes, two numbers and a line feed
abbrev pair_most : ℕ
pair_most = 12 + digits_most + digits_most + 1

-- the lines of m tiles between two lines of words
abbrev Fits : ℕ → List ℕ → Type 0
Fits m bytes = length bytes ≤ pair_most + line_most * m + pair_most

lines_fit : (n number taken m : ℕ) (ts : List Tile) → length ts ≤ m → ((t : Tile) → t ∈ ts → Low t) →
    Fits m (bed_line n (length ts) ++ (tile_lines ts ++ stop_line number taken))
unfolding bed_line stop_line
lines_fit n number taken m ts h low =
    omega (
      arith,
      length-append (bed_line n (length ts)) (tile_lines ts ++ stop_line number taken),
      length-append (tile_lines ts) (stop_line number taken),
      pair_line_most bed_word n tiles_word (length ts),
      tile_lines_most line_most ts (λ t i. low_line t (low t i)),
      pair_line_most stop_word number taken_word taken,
    )

module _ (m n s : ℕ) (f : ℕ → ℕ) (w : Good m n s f) (l : n ≤ listed_order) where
  tiles_low : (t : Tile) → t ∈ quadtree n f → Low t
  tiles_low t i =
      let q = quadtree_largest n f i in
      let g : 4 ^ n ≤ 4 ^ listed_order = area_mono {k = listed_order} l in
      record {
        corner = omega (arith, q.quadrant.inside);
        size = omega (arith, q.quadrant.fits);
        account = quadtree_low n f highest_account w.accounts t i;
      }

  good_fits : (number taken : ℕ) → Fits m (fed_listing (fed_to m (record { number = number; taken = taken; bed = bed_of Rows n s f })))
  unfolding fed_listing fed_to
  good_fits number taken =
      let e : tiles_in (length (quadtree n f)) (filled m (quadtree n f)) ≡ quadtree n f =
      tiles_in_filled m (quadtree n f) (λ t i. let o = tiles_low t i in record { size = omega (arith, o.size); account = o.account }) in
      rw e (lines_fit n number taken m (quadtree n f) w.room tiles_low)

blank_good : (m n : ℕ) (slots : List ℕ) → n ≤ highest_order → Good m n 0 (account_at (tiles_in 0 slots))
unfolding tiles_in account_at
blank_good m n slots l = record { order = l; scanned = omega arith; accounts = λ z h. omega arith; room = rw (blank_quadtree n) (omega arith) }

feed_of_fits : (n : ℕ) (slots bytes : List ℕ) → n ≤ listed_order → Fits (length slots) (fed_listing (feed_of (scan_of Rows n 0 0) slots bytes))
unfolding feed_of fed_listing tiles_in
feed_of_fits n slots bytes l =
    by_unless (λ (r : After Fed). Fits (length slots) (fed_listing r)) (opening (scan_of Rows n 0 0) slots)
    (λ number. lines_fit n number 0 (length slots) [] (omega arith) (λ t i. absurd (Memᴰ.not-nil i)))
    (λ q. fed (feed_pixels_alike (length slots) Rows n 0 0 _ _ bytes (λ z h. refl) (blank_good (length slots) n slots (omega arith))))
  where
    fed : {p : bed.BedFed} → FedAlike (length slots) Rows n p p → Fits (length slots) (fed_listing (fed_to (length slots) p))
    fed {p} a = rw a.second_bed (good_fits (length slots) n a.scanned a.second a.good l p.number p.taken)

row_fed_fits : (n : ℕ) (accounts : List ℕ) → n ≤ listed_order → Fits listed_slots (fed_listing (row_fed n accounts))
row_fed_fits n accounts l =
    rw (fresh_of_accepted Rows n (replicate listed_slots 0) (omega arith)) (feed_of_fits n (replicate (length (replicate {A = ℕ} listed_slots 0)) 0) accounts l)

pub listing_fits : (input : List ℕ) → length (listing input) ≤ listing_bytes
unfolding listing stop_line
listing_fits [] = omega (arith, pair_line_most stop_word file_cut_short taken_word 0)
listing_fits (n ∷ accounts) =
    by_if (λ (bytes : List ℕ). length bytes ≤ listing_bytes) (test_leb n listed_order)
    (λ l. omega (arith, row_fed_fits n accounts l))
    (λ l. omega (arith, pair_line_most stop_word order_too_large taken_word 0))

module _ (read out new : List ℕ) (r : Listed) (h : length out ≡ listing_bytes) (e : ◌≡◌ {A = After Listed} (record { answer = r; storage = new }) (list_of read out)) where
  room : list_of read out ≡ listed_to accepted (length (listing read)) (listing read ++ drop (length (listing read)) out)
  room = listed_in_room (listing read) out (omega (arith, listing_fits read))

  pub whole_listed : Whole read out r.length new
  whole_listed = record {
    fits = omega (arith, ap (λ (x : After Listed). x.answer.length) (e ∙ room), ap (λ (x : After Listed). length x.storage) (e ∙ room), length-append (listing read) (drop (length (listing read)) out));
    lists = λ input d.
        ap (λ (x : After Listed). listed_to accepted x.answer.length x.storage) (e ∙ room) ∙ sym room
        ∙ ap (λ (bytes : List ℕ). listed_in bytes out) (ap listing (sym d) ∙ listing_read input);
  }

-- the length of a listing that code takes for 0 where it is refused
pub listed_length : (r : Result ℕ Refusal) → result_unwrap_or r 0 ≡ (listed r).length
listed_length (Ok l) = refl
listed_length (Err r) = refl
