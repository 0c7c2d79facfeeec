-- "Reading a written file yields the same list and order" (document 01, "The map file"); a file is written of a
-- finished scan alone (document 02, request 5). Definitions only.
--     ReadWritten    what an accepted write leaves, read into slots that have room for it, gives back the order and the
--                    tile count; the slots then hold the list, and 0 behind it
--     WrittenWhole   the record of the map that is read is then the one written, but for its kind, which is by rows
--     WritesScanned  of what passes the opening checks, the writer answers 52 just where a pixel is unscanned
use Rattle.std.specs.Prelude.{◌≡◌, List, ◌++◌, ◌↔◌, ℕ, ◌-◌, ◌^◌, ◌≤◌, ◌<◌, length, take, replicate}
use Rattle.refusal.specs.Refusal.{accepted, unscanned}
use Rattle.bed.specs.declared.Scan.{Scan}
use Rattle.bed.specs.Places.{scan_of, place_of}
use Rattle.scan_check.specs.Opening.{opening}
use Rattle.mapfile_read.specs.declared.ReadAnswer.{ReadAnswer}
use Rattle.mapfile_read.specs.Reader.{read_of}
use Rattle.mapfile_write.specs.Writer.{write_check, write_of}

abbrev pub ReadWritten : Type 0
ReadWritten = (scan : Scan) (slots file others : List ℕ) →
    write_check scan slots file ≡ accepted → scan.tiles ≤ length others →
    read_of (take (write_of scan slots file).answer.length (write_of scan slots file).storage) others
    ≡ record {
      answer = record { number = accepted; order = scan.order; tiles = scan.tiles };
      storage = take scan.tiles slots ++ replicate (length others - scan.tiles) 0;
    }

abbrev pub WrittenWhole : Type 0
WrittenWhole = (scan : Scan) (slots file others : List ℕ) →
    (write_of scan slots file).answer.number ≡ accepted → scan.tiles ≤ length others →
    let written = write_of scan slots file in
    let map : ReadAnswer = (read_of (take written.answer.length written.storage) others).answer in
    scan_of scan.kind map.order (4 ^ map.order) map.tiles ≡ scan

abbrev pub WritesScanned : Type 0
WritesScanned = (scan : Scan) (slots file : List ℕ) → opening scan slots ≡ accepted →
    ((write_of scan slots file).answer.number ≡ unscanned)
    ↔ (((z : ℕ) → z < 4 ^ scan.order → place_of scan.kind scan.order z < scan.pixels) → ⊥)
