-- "Writers shall list the roster by rising account, and readers accept no other order" (document 02, request 7): what
-- is promised of the two calls. Definitions only. Entries are counted from 0; the entry ahead of entry j + 1 is entry j.
-- A roster section rs is a count of entries, and the entries (`section`, mapfile_laws).
--     entry_count rs       how many entries a section says it has
--     entry_account rs j   the account of its entry j
--     Rises rs            the account of each entry is above that of the entry ahead of it
--     Unsorted rs         an entry whose five bytes are there is not above the one ahead of it
--     Ends rs             the section ends where its entries do
--     TilesPass m file    with m slots, all items of the file pass up to its last tile word
--     tiles_of file        the tiles of a file
--     WritesSorted        the roster that is written is the map's, and rises
--     ReadsSorted         what the reader answers of the roster of a file, whatever its bytes are (`RosterRead`)
use Rattle.std.specs.Prelude.{◌≡◌, false, List, [], map, ◌↔◌, ℕ, ◌+◌, ◌*◌, ◌≤◌, ◌<◌, length, take, get_or}
use Rattle.refusal.specs.Refusal.{accepted, file_cut_short, trailing_bytes, roster_wrong, roster_unsorted}
use Rattle.tile.specs.declared.Tile.{Tile}
use Rattle.tile.specs.Tile.{tile_of, highest_order}
use Rattle.tile.specs.Slots.{tiles_in}
use Rattle.bed.specs.declared.Scan.{Scan}
use Rattle.mapfile_bytes.specs.Layout.{words_place, entries_place, entry_length, roster_length}
use Rattle.mapfile_roster.specs.Roster.{roster_of, roster_good}
use Rattle.mapfile_read.specs.Reader.{tiles_check, file_order, file_count, file_words, read_of}
use Rattle.mapfile_write.specs.Writer.{write_of}
use Rattle.mapfile_laws.specs.Totals.{section, file_entries}

abbrev pub entry_count : List ℕ → ℕ
entry_count rs = get_or rs 0 0

abbrev pub entry_account : List ℕ → ℕ → ℕ
entry_account rs j = get_or rs (entries_place + entry_length * j) 0

abbrev pub Rises : List ℕ → Type 0
Rises rs = (j : ℕ) → j + 1 < entry_count rs → entry_account rs j < entry_account rs (j + 1)

abbrev pub Unsorted : List ℕ → Type 0
Unsorted rs = (j : ℕ) × (j + 1 < entry_count rs) × (roster_length (j + 2) ≤ length rs)
    × (entry_account rs (j + 1) ≤ entry_account rs j)

abbrev pub Ends : List ℕ → Type 0
Ends rs = length rs ≡ roster_length (entry_count rs)

pub record TilesPass (m : ℕ) (file : List ℕ) : Type 0 where
  pub head : words_place ≤ length file
  pub order : file_order file ≤ highest_order
  pub slots : file_count file ≤ m
  pub words : tiles_check (file_order file) (file_count file) [] file words_place ≡ accepted

abbrev pub tiles_of : List ℕ → List Tile
tiles_of file = map tile_of (file_words file)

pub record WritesSorted : Type 0 where
  pub entries : (scan : Scan) (slots file : List ℕ) → (write_of scan slots file).answer.number ≡ accepted →
      file_entries (take (write_of scan slots file).answer.length (write_of scan slots file).storage)
      ≡ roster_of (tiles_in scan.tiles slots)
  pub rises : (scan : Scan) (slots file : List ℕ) → (write_of scan slots file).answer.number ≡ accepted →
      Rises (section (take (write_of scan slots file).answer.length (write_of scan slots file).storage))

pub record RosterRead (file slots : List ℕ) : Type 0 where
  -- 54 just where an entry is not above the one ahead of it, whatever bytes follow it or are missing behind it
  pub unsorted : ((read_of file slots).answer.number ≡ roster_unsorted)
      ↔ (TilesPass (length slots) file × Unsorted (section file))
  -- else 41 where the count or an entry is cut short, ..
  pub cut : TilesPass (length slots) file → ((read_of file slots).answer.number ≡ file_cut_short)
      ↔ ((Unsorted (section file) → ⊥) × (length (section file) < roster_length (entry_count (section file))))
  -- .. 42 where bytes follow entries that rise, ..
  pub more : ((read_of file slots).answer.number ≡ trailing_bytes)
      ↔ (TilesPass (length slots) file × Rises (section file)
      × (roster_length (entry_count (section file)) < length (section file)))
  -- .. and 43 where none do, and the entries are not the roster of the tiles by document 01's words
  pub wrong : ((read_of file slots).answer.number ≡ roster_wrong)
      ↔ (TilesPass (length slots) file × Ends (section file) × Rises (section file)
      × (roster_good (tiles_of file) (file_entries file) ≡ false))
  -- "readers accept no other order": the entries are those that the writer lists
  pub accepts : ((read_of file slots).answer.number ≡ accepted)
      ↔ (TilesPass (length slots) file × Ends (section file) × (file_entries file ≡ roster_of (tiles_of file)))
  -- an account that is there a second time gives 54 once its five bytes are read, and never 43
  pub repeated : (i j : ℕ) → i < j → j < entry_count (section file) →
      entry_account (section file) j ≡ entry_account (section file) i → TilesPass (length slots) file →
      roster_length (j + 1) ≤ length (section file) → (read_of file slots).answer.number ≡ roster_unsorted
  pub never : (i j : ℕ) → i < j → j < entry_count (section file) →
      entry_account (section file) j ≡ entry_account (section file) i →
      (read_of file slots).answer.number ≡ roster_wrong → ⊥
  -- a first entry of account 0 has none ahead of it: it gives 43, where those behind it rise and nothing follows them
  pub nobody : TilesPass (length slots) file → Ends (section file) → Rises (section file) →
      0 < entry_count (section file) → entry_account (section file) 0 ≡ 0 →
      (read_of file slots).answer.number ≡ roster_wrong

unfoldable pub ReadsSorted : Type 0
ReadsSorted = (file slots : List ℕ) → RosterRead file slots
