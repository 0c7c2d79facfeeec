-- The reader of a map file (document 01, "Refusals", the order of reading). Definitions only, by position in the bytes
-- of the file.
--     tiles_check n t seen bs p  word by word: 41 where the bytes end before it, then 11 to 16 as in list checking
--     file_check m bs            the reader's number with m slots: 41, 1, 41, 25, the words, the roster
--     file_order, file_count, file_words   the items of a file
--     read_of bs slots           the offered call: the list goes to the slots, and the rest of them is 0
--     read_bed bs                the plain bed of an accepted file: by rows, wholly scanned
-- Not here: where the items stand (mapfile_bytes, Layout), the numbers in bytes (mapfile_bytes, `word_at`), the roster
-- section (`roster_check`).
use Rattle.std.specs.Prelude.{List, [], ◌∷◌, ◌++◌, map, ℕ, zero, suc, ◌+◌, ◌-◌, ◌^◌, leb, length, drop, get_or, replicate}
use Rattle.refusal.specs.Refusal.{accepted, order_too_large, slots_exceeded, file_cut_short}
use Rattle.refusal.specs.Checks.{must, or_else, unless, After}
use Rattle.tile.specs.declared.Tile.{Tile}
use Rattle.tile.specs.Tile.{tile_of, highest_order}
use Rattle.quadtree.specs.Raster.{account_at}
use Rattle.list_check.specs.ListCheck.{word_check}
use Rattle.bed.specs.declared.Kind.TheVariants.{Rows}
use Rattle.bed.specs.Bed.{Bed}
use Rattle.mapfile_bytes.specs.Layout.{count_place, word_length, words_place, roster_place}
use Rattle.mapfile_bytes.specs.Items.{word_at, words_at}
use Rattle.mapfile_entries.specs.RosterCheck.{roster_check}
use Rattle.mapfile_read.specs.declared.ReadAnswer.{ReadAnswer}

unfoldable pub tiles_check : ℕ → ℕ → List Tile → List ℕ → ℕ → ℕ
tiles_check n zero seen bs p = accepted
tiles_check n (suc t) seen bs p =
    must (leb (p + word_length) (length bs)) file_cut_short
    (word_check n seen (word_at bs p) (tiles_check n t (tile_of (word_at bs p) ∷ seen) bs (p + word_length)))

abbrev pub file_order : List ℕ → ℕ
file_order bs = get_or bs 0 0

abbrev pub file_count : List ℕ → ℕ
file_count bs = word_at bs count_place

abbrev pub file_words : List ℕ → List ℕ
file_words bs = words_at (file_count bs) bs words_place

unfoldable pub file_check : ℕ → List ℕ → ℕ
file_check m bs =
    must (leb 1 (length bs)) file_cut_short
    (must (leb (file_order bs) highest_order) order_too_large
    (must (leb words_place (length bs)) file_cut_short
    (must (leb (file_count bs) m) slots_exceeded
    (or_else (tiles_check (file_order bs) (file_count bs) [] bs words_place)
    (roster_check (map tile_of (file_words bs)) (drop (roster_place (file_count bs)) bs))))))

unfoldable pub read_of : List ℕ → List ℕ → After ReadAnswer
read_of bs slots =
    unless (file_check (length slots) bs)
    (λ number. record { answer = record { number = number; order = 0; tiles = 0 }; storage = slots })
    (record {
      answer = record { number = accepted; order = file_order bs; tiles = file_count bs };
      storage = file_words bs
          ++ replicate (length slots - file_count bs) 0;
    })

abbrev pub read_bed : List ℕ → Bed
read_bed bs = record {
  order = file_order bs;
  kind = Rows;
  scanned = 4 ^ file_order bs;
  account = account_at (map tile_of (file_words bs));
}
