-- Refusals as code has them, and their numbers. Definitions only.
--     number r    the number of the refusal r
--     said x      the number of an answer: 0 where it is no refusal
use Rattle.std.specs.Prelude.{ℕ, Result, Ok, Err}
use Rattle.refusal.specs.declared.Refusal.{Refusal}
use Rattle.refusal.specs.declared.Refusal.TheVariants.{OrderTooLarge, CountAboveSlots, HighBitsSet, SizeAboveOrder, CornerInvalid, AccountZero, TilesOverlap, SiblingsUnmerged, ScannedTooLarge, TileUnscanned, ScanFull, AccountTooLarge, SlotsExceeded, BytesTooFew, PointOutside, BlockInvalid, RasterLength, AskerInvalid, FileCutShort, TrailingBytes, RosterWrong, OrdersDiffer, Unscanned, PositionInvalid, RosterUnsorted, TableMalformed, TableUnsound}
use Rattle.refusal.specs.Refusal.{accepted, order_too_large, count_above_slots, high_bits_set, size_above_order, corner_invalid, account_zero, tiles_overlap, siblings_unmerged, scanned_too_large, tile_unscanned, scan_full, account_too_large, slots_exceeded, bytes_too_few, point_outside, block_invalid, raster_length, asker_invalid, file_cut_short, trailing_bytes, roster_wrong, orders_differ, unscanned, position_invalid, roster_unsorted, table_malformed, table_unsound}

abbrev pub number : Refusal → ℕ
number OrderTooLarge = order_too_large
number CountAboveSlots = count_above_slots
number HighBitsSet = high_bits_set
number SizeAboveOrder = size_above_order
number CornerInvalid = corner_invalid
number AccountZero = account_zero
number TilesOverlap = tiles_overlap
number SiblingsUnmerged = siblings_unmerged
number ScannedTooLarge = scanned_too_large
number TileUnscanned = tile_unscanned
number ScanFull = scan_full
number AccountTooLarge = account_too_large
number SlotsExceeded = slots_exceeded
number BytesTooFew = bytes_too_few
number PointOutside = point_outside
number BlockInvalid = block_invalid
number RasterLength = raster_length
number AskerInvalid = asker_invalid
number FileCutShort = file_cut_short
number TrailingBytes = trailing_bytes
number RosterWrong = roster_wrong
number OrdersDiffer = orders_differ
number Unscanned = unscanned
number PositionInvalid = position_invalid
number RosterUnsorted = roster_unsorted
number TableMalformed = table_malformed
number TableUnsound = table_unsound

abbrev pub said : {A : Type 0} → Result A Refusal → ℕ
said (Ok x) = accepted
said (Err r) = number r
