-- Laws of the written file.
--     length_words_bytes    words take 4 bytes each
--     file_of_bytes         the length of a file by its tiles and the entries of its roster
--     file_of_length        the same of a valid list, by the number of accounts that have tiles
--     ready_opened          what is known of a list past the checks ahead of 26
--     file_of_put           the parts of a file stored in turn are the file
--     words_few, words_fit  a checked list has no more words than the largest bed has pixels, and no account covers more
--     words_size            the length of the file of words that are those of slots
--     write_of_short, -accepted   what the writer answers and leaves, by how its checks end
--     write_of_put          the same of a file that is stored
use mathlib.Core.Path.{◌≡◌, refl, ap, sym, ◌∙◌}
use mathlib.Core.List.{List, [], ◌∷◌, ◌++◌, map}
use Prim.Native.Nat.{ℕ, ◌+◌, ◌-◌, ◌*◌, ◌^◌, ◌≤◌, ◌<◌}
use native.Mathlib.Omega.{arith}
use lib.Dec.{leb}
use lib.ListN.{length, take, drop, set, length-append, length-map}
use lib.Seq.{sets}
use Rattle.basics.proofs.Tests.{test_leb}
use Rattle.refusal.specs.Refusal.{accepted, bytes_too_few}
use Rattle.refusal.specs.Checks.{must, unless, After}
use Rattle.refusal.proofs.CheckLaws.{must_on, must_off, else_on, else_inv}
use Rattle.tile.specs.declared.Tile.{Tile}
use Rattle.tile.specs.Tile.{tile_of, word_of, highest_order}
use Rattle.tile.specs.Slots.{tiles, tiles_in}
use Rattle.list_check.specs.ListCheck.{list_check}
use Rattle.list_check.proofs.TreeLaws.{tree_order, tree_valid, tree_tiles}
use Rattle.tile.proofs.SlotsLaws.{words_tiles}
use Rattle.quadtree.specs.Valid.{Valid}
use Rattle.quadtree.proofs.Alignment.{area_mono}
use Rattle.quadtree.proofs.ValidLaws.{valid_length}
use Rattle.bed.specs.declared.Scan.{Scan}
use Rattle.scan_check.specs.Opened.{Opened}
use Rattle.scan_check.proofs.Opening.{opening_opened}
use Rattle.mapfile_roster.specs.Roster.{covered, roster_of}
use Rattle.mapfile_roster.specs.declared.Entry.{Entry}
use Rattle.mapfile_roster.proofs.CoveredLaws.{covered_fits}
use Rattle.mapfile_roster.proofs.RosterLaws.{accounts_of, roster_of_length}
use Rattle.mapfile_sections.specs.Sections.{word_bytes, words_bytes, entries_bytes, roster_bytes}
use Rattle.mapfile_sections.proofs.Puts.{sets_append, sets_front, part_put}
use Rattle.mapfile_sections.proofs.Passes.{length_entries_bytes}
use Rattle.mapfile_write.specs.declared.WriteAnswer.{WriteAnswer}
use Rattle.mapfile_write.specs.Writer.{file_of, ready_check, write_check, write_of}

pub length_words_bytes : (ws : List ℕ) → length (words_bytes ws) ≡ 4 * length ws
unfolding words_bytes
length_words_bytes [] = refl
length_words_bytes (w ∷ ws) = omega (arith, length_words_bytes ws)

pub file_of_bytes : (n : ℕ) (ts : List Tile) → length (file_of n ts) ≡ 6 + 4 * length ts + 5 * length (roster_of ts)
unfolding file_of
file_of_bytes n ts =
    omega (arith, length-append (words_bytes (map word_of ts)) (length (roster_of ts) ∷ entries_bytes (roster_of ts)), length_words_bytes (map word_of ts), length-map ts word_of, length_entries_bytes (roster_of ts))

pub file_of_length : {n : ℕ} {ts : List Tile} → Valid n ts → length (file_of n ts) ≡ 6 + 4 * length ts + 5 * accounts_of ts
file_of_length {n} {ts} v = file_of_bytes n ts ∙ ap (λ (a : ℕ). 6 + 4 * length ts + 5 * a) (roster_of_length v)

-- what is known of a list past the checks ahead of 26
pub ready_opened : (scan : Scan) (slots : List ℕ) → ready_check scan slots ≡ accepted → Opened scan slots
unfolding ready_check
ready_opened scan slots e = opening_opened scan slots (else_inv _ _ e).0

module _ (n : ℕ) (ws xs : List ℕ) where
  abbrev roster : List Entry
  roster = roster_of (map tile_of ws)

  -- the roster goes into the part behind the tiles, of which `part` is what it leaves there
  pub file_of_put : {a b part : List ℕ} → length xs ≡ length b → 6 + 4 * length ws + 5 * length roster ≤ length xs → a ≡ sets (set xs 0 n) 1 (word_bytes (length ws)) → b ≡ sets a 5 (words_bytes ws) →
      part ≡ sets (take (length b - (5 + 4 * length ws)) (drop (5 + 4 * length ws) b)) 0 (roster_bytes roster) →
      take (5 + 4 * length ws) b ++ (part ++ drop (length b - (5 + 4 * length ws)) (drop (5 + 4 * length ws) b)) ≡ sets xs 0 (file_of n (map tile_of ws))
  unfolding file_of
  file_of_put {a} {b} {part} same room ea eb ep =
      let rest : List ℕ = roster_bytes roster in
      let l : 5 + length (words_bytes ws) ≡ 5 + 4 * length ws = omega (arith, length_words_bytes ws) in
      part_put b part (5 + 4 * length ws) rest (omega (arith, length_entries_bytes roster)) ep
      ∙ rw (eb, ea, words_tiles ws, length-map ws tile_of)
      (sym (sets_append (set xs 0 n) 1 (word_bytes (length ws)) (words_bytes ws ++ rest) ∙ sets_append (sets (set xs 0 n) 1 (word_bytes (length ws))) 5 (words_bytes ws) rest ∙ rw l))

-- a checked list
module _ (n : ℕ) (ws : List ℕ) (p : list_check n (length ws) ws ≡ accepted) where
  pub words_few : length ws ≤ 4 ^ highest_order
  words_few =
      let l : 4 ^ n ≤ 4 ^ highest_order = area_mono (tree_order n ws p) in
      omega (arith, valid_length (tree_valid n ws p), length-map ws tile_of)

  pub words_fit : (a : ℕ) → covered a (tiles ws) < 2 ^ 32
  words_fit a = omega (arith, covered_fits a (tree_order n ws p) (tree_valid n ws p))

-- the file of the words of a list is that of the list in slots
pub words_size : (n t : ℕ) (slots ws : List ℕ) (k : ℕ) → ws ≡ take t slots → k ≡ length (roster_of (tiles ws)) → length (file_of n (tiles_in t slots)) ≡ 6 + 4 * length ws + 5 * k
words_size n t slots ws k e ek = rw (tree_tiles t slots e, ek) (omega (arith, file_of_bytes n (tiles ws), length-map ws tile_of))

module _ (scan : Scan) (slots file : List ℕ) where
  abbrev bytes : List ℕ
  bytes = file_of scan.order (tiles_in scan.tiles slots)

  module _ (e : ready_check scan slots ≡ accepted) where
    pub write_of_short : length file < length bytes → ◌≡◌ {A = After WriteAnswer} (record { answer = record { number = bytes_too_few; length = 0 }; storage = file }) (write_of scan slots file)
    unfolding write_of write_check unless
    write_of_short h = rw (else_on _ (must (leb (length bytes) (length file)) bytes_too_few accepted) e, must_off bytes_too_few accepted (test_leb (length bytes) (length file)) (λ l. omega arith))

    pub write_of_accepted : length bytes ≤ length file →
        write_of scan slots file ≡ record { answer = record { number = accepted; length = length bytes }; storage = bytes ++ drop (length bytes) file }
    unfolding write_of write_check unless
    write_of_accepted h = rw (else_on _ (must (leb (length bytes) (length file)) bytes_too_few accepted) e, must_on bytes_too_few accepted (test_leb (length bytes) (length file)) h)

    pub write_of_put : (l : ℕ) {ys : List ℕ} → length bytes ≡ l → l ≤ length file → ys ≡ sets file 0 bytes → ◌≡◌ {A = After WriteAnswer} (record { answer = record { number = accepted; length = l }; storage = ys }) (write_of scan slots file)
    write_of_put l el h ey =
        let h' : length bytes ≤ length file = omega arith in
        rw (write_of_accepted h', ey, sets_front file bytes h', ← el)
