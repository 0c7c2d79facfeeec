-- The refusal numbers (document 01, "Refusals by the place of the check"; from 51 on document 02), under the name of
-- the condition met. Definitions only. `accepted` is no refusal. The comment is the table's own row, and what a request
-- added to it.
use Rattle.std.specs.Prelude.{ℕ}

abbrev pub accepted : ℕ
accepted = 0

-- order above 10
abbrev pub order_too_large : ℕ
order_too_large = 1

-- count above the lent slots
abbrev pub count_above_slots : ℕ
count_above_slots = 2

-- bit 31 or 30 of a tile word set
abbrev pub high_bits_set : ℕ
high_bits_set = 11

-- size above n
abbrev pub size_above_order : ℕ
size_above_order = 12

-- corner not below 4^n, or not a multiple of 4^size
abbrev pub corner_invalid : ℕ
corner_invalid = 13

-- account 0
abbrev pub account_zero : ℕ
account_zero = 14

-- corner before the end of the tile ahead of it
abbrev pub tiles_overlap : ℕ
tiles_overlap = 15

-- last of four brother tiles of one size and account
abbrev pub siblings_unmerged : ℕ
siblings_unmerged = 16

-- pixels scanned above 4^n
abbrev pub scanned_too_large : ℕ
scanned_too_large = 21

-- a tile covers an unscanned pixel
abbrev pub tile_unscanned : ℕ
tile_unscanned = 22

-- the scan already has 4^n pixels
abbrev pub scan_full : ℕ
scan_full = 23

-- fed or claimed account above 63
abbrev pub account_too_large : ℕ
account_too_large = 24

-- the finished list after this pixel or claim has more tiles than there are slots; so has a combined list; a file's
-- count exceeds the slots
abbrev pub slots_exceeded : ℕ
slots_exceeded = 25

-- fewer bytes lent than the file or the text takes
abbrev pub bytes_too_few : ℕ
bytes_too_few = 26

-- column or row not below 2^n
abbrev pub point_outside : ℕ
point_outside = 31

-- size above n, corner not below 4^n or not a multiple of 4^size
abbrev pub block_invalid : ℕ
block_invalid = 32

-- raster length other than 4^n
abbrev pub raster_length : ℕ
raster_length = 33

-- asking account 0 or above 63
abbrev pub asker_invalid : ℕ
asker_invalid = 34

-- the bytes end before the item read
abbrev pub file_cut_short : ℕ
file_cut_short = 41

-- bytes follow the roster
abbrev pub trailing_bytes : ℕ
trailing_bytes = 42

-- the roster is not the tiles'
abbrev pub roster_wrong : ℕ
roster_wrong = 43

-- two maps of orders that differ
abbrev pub orders_differ : ℕ
orders_differ = 51

-- an unscanned point, a block with an unscanned pixel, or a file to be written from an unfinished scan
abbrev pub unscanned : ℕ
unscanned = 52

-- a position in mils that is a text of another form, or off the bed
abbrev pub position_invalid : ℕ
position_invalid = 53

-- a roster entry not above the one ahead of it
abbrev pub roster_unsorted : ℕ
roster_unsorted = 54

-- a file of a table of rights with a wrong count, a wrong length or a byte above 1; a table in force of a wrong length
abbrev pub table_malformed : ℕ
table_malformed = 55

-- a table of rights in which a row does not say yes to its own pixels, or lacks a yes of the row below it
abbrev pub table_unsound : ℕ
table_unsound = 56
