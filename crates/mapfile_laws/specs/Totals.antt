-- "An account's total is proved to be the number of its pixels in the decoded raster" (document 02, request 2).
-- Definitions only. The decoded raster is what decode leaves, 4 ^ order bytes. Accounts are from 1 on: there is no tile
-- for nobody's pixels, and no total.
--     occurs a bytes      how many of the bytes are a
--     section file        the roster section of a file: the count of its entries, and the entries
--     file_entries file    the entries of a file's roster
--     Tallies raster es   the entries es, wherever they stand, are what the raster has: an account with pixels there
--                         has one entry, and its total is the number of these pixels; no other account has an entry
--     Totals              what is promised
use Rattle.std.specs.Prelude.{◌≡◌, true, ◌↔◌, ℕ, ◌+◌, ◌^◌, ◌≤◌, ltb, eqb, length, take, drop, get_or}
use mathlib.Core.List.{List, [], ◌∷◌, map, Memᴰ}
use Rattle.basics.specs.Choice.{if}
use Rattle.refusal.specs.Refusal.{accepted, roster_wrong}
use Rattle.tile.specs.declared.Tile.{Tile}
use Rattle.tile.specs.Tile.{tile_of}
use Rattle.tile.specs.Slots.{tiles_in}
use Rattle.quadtree.specs.Raster.{account_at}
use Rattle.quadtree.specs.Quadtree.{LinearQuadtree}
use Rattle.list_check.specs.ListCheck.{list_check}
use Rattle.bed.specs.declared.Scan.{Scan}
use Rattle.bed.specs.Places.{rows}
use Rattle.decode.specs.Decode.{decode_of}
use Rattle.mapfile_bytes.specs.Layout.{roster_place, entries_place}
use Rattle.mapfile_roster.specs.declared.Entry.{Entry}
use Rattle.mapfile_roster.specs.Roster.{covered, listed, roster_good}
use Rattle.mapfile_entries.specs.RosterCheck.{entries_at}
use Rattle.mapfile_read.specs.Reader.{file_order, file_count, file_words, file_check, read_of}
use Rattle.mapfile_write.specs.Writer.{write_check, write_of}

unfoldable pub occurs : ℕ → List ℕ → ℕ
occurs a [] = 0
occurs a (b ∷ bytes) = if (eqb b a) 1 0 + occurs a bytes

abbrev pub section : List ℕ → List ℕ
section file = drop (roster_place (file_count file)) file

abbrev pub file_entries : List ℕ → List Entry
file_entries file = entries_at (get_or (section file) 0 0) (section file) entries_place

pub record Tallies (raster : List ℕ) (es : List Entry) : Type 0 where
  pub totals : (e : Entry) → Memᴰ e es → e.pixels ≡ occurs e.account raster
  pub once : (a : ℕ) → 1 ≤ a → listed a es ≡ if (ltb 0 (occurs a raster)) 1 0
  pub nobody : listed 0 es ≡ 0

pub record Totals : Type 0 where
  -- the total by the tiles is the number of the account's pixels: in the linear quadtree of any raster of any order ..
  pub list : (n : ℕ) (f : ℕ → ℕ) (ts : List Tile) (a : ℕ) → LinearQuadtree n f ts → 1 ≤ a →
      covered a ts ≡ occurs a (rows n f)
  -- .. and so for any list that is accepted, in what decoding it leaves
  pub decoded : (order tiles : ℕ) (slots raster : List ℕ) (a : ℕ) → list_check order tiles slots ≡ accepted →
      length raster ≡ 4 ^ order → 1 ≤ a →
      covered a (tiles_in tiles slots) ≡ occurs a (decode_of order tiles slots raster).storage
  -- the entries that are the roster of the tiles are those that tally with the raster
  pub roster : (n : ℕ) (f : ℕ → ℕ) (ts : List Tile) (es : List Entry) → LinearQuadtree n f ts →
      (roster_good ts es ≡ true) ↔ Tallies (rows n f) es
  -- a written file's roster tallies with what decoding the map leaves
  pub written : (scan : Scan) (slots file raster : List ℕ) → write_check scan slots file ≡ accepted →
      length raster ≡ 4 ^ scan.order →
      Tallies (decode_of scan.order scan.tiles slots raster).storage
      (file_entries (take (write_of scan slots file).answer.length (write_of scan slots file).storage))
  -- the roster of a file that was read tallies with what decoding the list read leaves
  pub read : (file slots raster : List ℕ) →
      let order : ℕ = (read_of file slots).answer.order in
      let tiles : ℕ = (read_of file slots).answer.tiles in
      file_check (length slots) file ≡ accepted → length raster ≡ 4 ^ order →
      Tallies (decode_of order tiles (read_of file slots).storage raster).storage (file_entries file)
  -- .. and that of a file that is refused by 43 does not tally with the raster of its tiles
  pub refused : (m : ℕ) (file : List ℕ) → file_check m file ≡ roster_wrong →
      Tallies (rows (file_order file) (account_at (map tile_of (file_words file)))) (file_entries file) → ⊥
