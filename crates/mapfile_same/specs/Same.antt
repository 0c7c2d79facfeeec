-- "Two accepted files shall have the same bytes exactly when their beds have the same order and the same account on
-- every pixel. Every wholly scanned map must have such a file" (document 02, request 9): what is promised of the reader
-- and the writer. Definitions only.
--     Bytes file                  each number of the file is a byte: a file that code is handed has no other numbers
--     ReaderAccepts file slots    the reader accepts the file with these slots
--     decoded file slots raster   what decoding the list that was read leaves
--     SameBed a b                 the beds have the same order and, on every pixel, account, whatever their kinds
--     Finished b                  every pixel of the bed is scanned
--     BedFile b file              a file of the bed b, which is wholly scanned: of bytes, accepted wherever there are
--                                 slots for its tiles, and its bed is the same as b
--     WriterAccepts scan slots lent   the writer accepts the map with these bytes lent
--     written scan slots lent     the file that it then leaves
--     wrote file lent             what the writer answers and leaves that writes this file
--     OneFile                     what is promised
use Rattle.std.specs.Prelude.{◌≡◌, ◌↔◌, ℕ, ◌^◌, ◌≤◌, ◌<◌, length, take, drop}
use mathlib.Core.List.{List, ◌++◌, Memᴰ}
use Rattle.refusal.specs.Refusal.{accepted}
use Rattle.refusal.specs.Checks.{After}
use Rattle.tile.specs.Tile.{highest_order, highest_account}
use Rattle.bed.specs.declared.Kind.{Kind}
use Rattle.bed.specs.declared.Scan.{Scan}
use Rattle.bed.specs.Places.{scan_of, place_of}
use Rattle.bed.specs.Bed.{Bed}
use Rattle.bed.specs.Shown.{shown_bed}
use Rattle.scan_check.specs.Opening.{opening}
use Rattle.decode.specs.Decode.{decode_of}
use Rattle.mapfile_read.specs.Reader.{file_count, read_bed, read_of}
use Rattle.mapfile_write.specs.declared.WriteAnswer.{WriteAnswer}
use Rattle.mapfile_write.specs.Writer.{write_of}

abbrev pub Bytes : List ℕ → Type 0
Bytes file = (b : ℕ) → Memᴰ b file → b < 256

abbrev pub ReaderAccepts : List ℕ → List ℕ → Type 0
ReaderAccepts file slots = (read_of file slots).answer.number ≡ accepted

abbrev pub decoded : List ℕ → List ℕ → List ℕ → List ℕ
decoded file slots raster =
    let r = read_of file slots in
    (decode_of r.answer.order r.answer.tiles r.storage raster).storage

pub record SameBed (a b : Bed) : Type 0 where
  pub order : a.order ≡ b.order
  pub account : (z : ℕ) → z < 4 ^ a.order → a.account z ≡ b.account z

abbrev pub Finished : Bed → Type 0
Finished b = (z : ℕ) → z < 4 ^ b.order → place_of b.kind b.order z < b.scanned

pub record BedFile (b : Bed) (file : List ℕ) : Type 0 where
  pub scanned : Finished b
  pub bytes : Bytes file
  pub accepts : (slots : List ℕ) → file_count file ≤ length slots → ReaderAccepts file slots
  pub bed : SameBed (read_bed file) b

abbrev pub WriterAccepts : Scan → List ℕ → List ℕ → Type 0
WriterAccepts scan slots lent = (write_of scan slots lent).answer.number ≡ accepted

abbrev pub written : Scan → List ℕ → List ℕ → List ℕ
written scan slots lent = take (write_of scan slots lent).answer.length (write_of scan slots lent).storage

abbrev pub wrote : List ℕ → List ℕ → After WriteAnswer
wrote file lent = record {
  answer = record { number = accepted; length = length file };
  storage = file ++ drop (length file) lent;
}

pub record OneFile : Type 0 where
  -- "the same bytes exactly when their beds have the same order and the same account on every pixel"
  pub same : (file other slots others : List ℕ) → Bytes file → Bytes other → ReaderAccepts file slots →
      ReaderAccepts other others → (file ≡ other) ↔ SameBed (read_bed file) (read_bed other)
  -- the same of what the calls give: the orders that the reader answers, and what decoding the lists read leaves
  pub decodes : (file other slots others raster image : List ℕ) → Bytes file → Bytes other →
      ReaderAccepts file slots → ReaderAccepts other others →
      length raster ≡ 4 ^ (read_of file slots).answer.order → length image ≡ 4 ^ (read_of other others).answer.order →
      (file ≡ other) ↔ (((read_of file slots).answer.order ≡ (read_of other others).answer.order)
      × (decoded file slots raster ≡ decoded other others image))
  -- the slots are no part of it: an accepted file has the same answer wherever there are as many as its tiles
  pub slots : (file slots others : List ℕ) → ReaderAccepts file slots →
      ((read_of file others).answer ≡ (read_of file slots).answer) ↔ ((read_of file slots).answer.tiles ≤ length others)
  -- what is written of a map is a file of its bed, which is then wholly scanned ..
  pub file : (scan : Scan) (slots lent : List ℕ) → WriterAccepts scan slots lent →
      BedFile (shown_bed scan slots) (written scan slots lent)
  -- .. and "every wholly scanned map must have such a file": wherever it has room it is written
  pub every : (scan : Scan) (slots : List ℕ) → opening scan slots ≡ accepted → Finished (shown_bed scan slots) →
      (file : List ℕ) × BedFile (shown_bed scan slots) file
      × ((lent : List ℕ) → length file ≤ length lent → write_of scan slots lent ≡ wrote file lent)
  -- a map that was read, with a record of either kind, is written byte by byte as it was
  pub again : (file slots lent : List ℕ) (kind : Kind) → Bytes file → ReaderAccepts file slots →
      length file ≤ length lent →
      let r = read_of file slots in
      write_of (scan_of kind r.answer.order (4 ^ r.answer.order) r.answer.tiles) r.storage lent
      ≡ wrote file lent
  -- and every wholly scanned bed of an order and accounts that there are has one file, and no other
  pub one : (b : Bed) → b.order ≤ highest_order → ((z : ℕ) → z < 4 ^ b.order → b.account z ≤ highest_account) →
      Finished b → (file : List ℕ) × BedFile b file × ((other : List ℕ) → BedFile b other → other ≡ file)
