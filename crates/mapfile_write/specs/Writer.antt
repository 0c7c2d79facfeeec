-- The writer of a map file (document 01, "The map file"; document 02, request 5). Definitions only. All numbers stand
-- high byte first.
--     file_of n ts                 the file of the list ts of order n
--     ready_check scan slots       the opening checks, then 52: the scan is finished
--     write_check ..               these, then 26
--     write_of scan slots file     the offered call: the bytes past the file's are not touched
-- Not here: numbers, words and entries as bytes (mapfile_sections).
use Rattle.std.specs.Prelude.{List, ◌∷◌, ◌++◌, map, ℕ, leb, length, drop}
use Rattle.refusal.specs.Refusal.{accepted, bytes_too_few}
use Rattle.refusal.specs.Checks.{must, or_else, unless, After}
use Rattle.tile.specs.declared.Tile.{Tile}
use Rattle.tile.specs.Tile.{word_of}
use Rattle.tile.specs.Slots.{tiles_in}
use Rattle.bed.specs.declared.Scan.{Scan}
use Rattle.scan_check.specs.Opening.{opening}
use Rattle.scan_check.specs.Scanned.{finished_check}
use Rattle.mapfile_roster.specs.Roster.{roster_of}
use Rattle.mapfile_sections.specs.Sections.{word_bytes, words_bytes, roster_bytes}
use Rattle.mapfile_write.specs.declared.WriteAnswer.{WriteAnswer}

-- order; tile count and words; roster
unfoldable pub file_of : ℕ → List Tile → List ℕ
file_of n ts = n ∷ (word_bytes (length ts) ++ (words_bytes (map word_of ts) ++ roster_bytes (roster_of ts)))

unfoldable pub ready_check : Scan → List ℕ → ℕ
ready_check scan slots = or_else (opening scan slots) (finished_check scan)

unfoldable pub write_check : Scan → List ℕ → List ℕ → ℕ
write_check scan slots file = or_else (ready_check scan slots)
    (must (leb (length (file_of scan.order (tiles_in scan.tiles slots))) (length file)) bytes_too_few accepted)

unfoldable pub write_of : Scan → List ℕ → List ℕ → After WriteAnswer
write_of scan slots file =
    let bytes : List ℕ = file_of scan.order (tiles_in scan.tiles slots) in
    unless (write_check scan slots file)
    (λ number. record { answer = record { number = number; length = 0 }; storage = file })
    (record {
      answer = record { number = accepted; length = length bytes };
      storage = bytes
          ++ drop (length bytes) file;
    })
