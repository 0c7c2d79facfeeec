-- The listing that bedlist prints (document 01, "Worked beds"), as bytes. Definitions only.
--     bed_line, tile_line, stop_line   the lines, each with its line feed
--     scan_lines n t slots number taken   the lines of a bed of order n, of its t tiles in the slots, and of its feed's
--                                        end
--     listed_order               the highest order that is listed
--     listed_slots               the slots that are lent
--     listing input             the listing of an input: an order, then account bytes by rows
--     Listed                     a listing's number and length
--     listed_to number end out   a listing's answer, with what the bytes lent for it hold afterwards
--     listed_in bytes out        a listing of these bytes in the bytes lent, of which those past it are not touched
--     list_of input out          the offered call
-- Not here: how much of an input a program reads (listing_whole, `Whole`).
use Rattle.std.specs.Prelude.{List, [], ◌∷◌, ◌++◌, ℕ, leb, length, drop, replicate}
use Rattle.basics.specs.Choice.{if}
use Rattle.refusal.specs.Refusal.{accepted, order_too_large, bytes_too_few, file_cut_short}
use Rattle.refusal.specs.Checks.{must, unless, After}
use Rattle.decimal.specs.Lines.{pair_line, triple_line}
use Rattle.tile.specs.declared.Tile.{Tile}
use Rattle.tile.specs.Slots.{tiles_in}
use Rattle.bed.specs.declared.Kind.TheVariants.{Rows}
use Rattle.scan.specs.FreshScan.{fresh_of}
use Rattle.scan.specs.Feed.{Fed, feed_of}

-- "bed ", " tiles ", "stop ", " taken "
abbrev pub bed_word : List ℕ
bed_word = 98 ∷ 101 ∷ 100 ∷ 32 ∷ []

abbrev pub tiles_word : List ℕ
tiles_word = 32 ∷ 116 ∷ 105 ∷ 108 ∷ 101 ∷ 115 ∷ 32 ∷ []

abbrev pub stop_word : List ℕ
stop_word = 115 ∷ 116 ∷ 111 ∷ 112 ∷ 32 ∷ []

abbrev pub taken_word : List ℕ
taken_word = 32 ∷ 116 ∷ 97 ∷ 107 ∷ 101 ∷ 110 ∷ 32 ∷ []

unfoldable pub bed_line : ℕ → ℕ → List ℕ
bed_line n t = pair_line bed_word n tiles_word t

unfoldable pub tile_line : Tile → List ℕ
tile_line t = triple_line t.corner t.size t.account

unfoldable pub tile_lines : List Tile → List ℕ
tile_lines [] = []
tile_lines (t ∷ ts) = tile_line t ++ tile_lines ts

unfoldable pub stop_line : ℕ → ℕ → List ℕ
stop_line number taken = pair_line stop_word number taken_word taken

abbrev pub scan_lines : ℕ → ℕ → List ℕ → ℕ → ℕ → List ℕ
scan_lines n t slots number taken = bed_line n t ++ (tile_lines (tiles_in t slots) ++ stop_line number taken)

abbrev pub listed_order : ℕ
listed_order = 6

abbrev pub listed_slots : ℕ
listed_slots = 4096

-- what a fresh row scan of order n, fed the accounts, answers and leaves in the slots
abbrev pub row_fed : ℕ → List ℕ → After Fed
row_fed n accounts = let r = fresh_of Rows n (replicate listed_slots 0) in feed_of r.answer.scan r.storage accounts

unfoldable pub fed_listing : After Fed → List ℕ
fed_listing r =
    scan_lines r.answer.scan.order r.answer.scan.tiles r.storage r.answer.number r.answer.taken

unfoldable pub listing : List ℕ → List ℕ
listing [] = stop_line file_cut_short 0
listing (n ∷ accounts) = if (leb n listed_order) (fed_listing (row_fed n accounts)) (stop_line order_too_large 0)

-- the bytes written, with the number 26 where the listing takes more than were lent
pub record Listed : Type 0 where
  pub number : ℕ
  pub length : ℕ

abbrev pub listed_to : ℕ → ℕ → List ℕ → After Listed
listed_to number end out = record { answer = record { number = number; length = end }; storage = out }

unfoldable pub listed_in : List ℕ → List ℕ → After Listed
listed_in bytes out =
    unless (must (leb (length bytes) (length out)) bytes_too_few accepted)
    (λ number. listed_to number 0 out)
    (listed_to accepted (length bytes) (bytes ++ drop (length bytes) out))

abbrev pub list_of : List ℕ → List ℕ → After Listed
list_of input out = listed_in (listing input) out
