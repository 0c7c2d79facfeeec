-- An accepted file is made of its items: no byte of it is left to choose.
--     word_bytes_lem, words_bytes_lem, entries_bytes_lem   what is read at a place stands there by its bytes
--     section_bytes                            a roster section that ends with its entries is their bytes
--     file_bytes                               an accepted file is the file of its order and its list
use mathlib.Core.Path.{◌≡◌, refl, ap, ap₂, sym, ◌∙◌}
use mathlib.Core.List.{List, [], ◌∷◌, ◌++◌, append-nil}
use Prim.Native.Nat.{ℕ, zero, suc, ◌+◌, ◌*◌, ◌/◌, ◌%◌, ◌^◌, ◌≤◌, ◌<◌}
use native.Mathlib.Omega.{arith}
use lib.ListN.{length, drop, get_or, length-map}
use lib.Seq.{drop-cons, drop-length}
use Rattle.tile.specs.Tile.{tile_of}
use Rattle.tile.proofs.SlotsLaws.{words_tiles}
use Rattle.mapfile_bytes.specs.Items.{word_at, words_at}
use Rattle.mapfile_roster.specs.declared.Entry.{Entry}
use Rattle.mapfile_roster.specs.Roster.{roster_of}
use Rattle.mapfile_entries.specs.RosterCheck.{entries_at}
use Rattle.mapfile_read.specs.Reader.{file_order, file_count, file_words}
use Rattle.mapfile_read.proofs.ReaderLaws.{tiles_check_valid}
use Rattle.mapfile_bytes.proofs.ItemsLaws.{words_at_length}
use Rattle.mapfile_sections.specs.Sections.{word_bytes, words_bytes, entries_bytes}
use Rattle.mapfile_write.specs.Writer.{file_of}
use Rattle.mapfile_laws.specs.Totals.{section}
use Rattle.mapfile_sorted.specs.Sorted.{entry_count, Ends, tiles_of, ReadsSorted}
use Rattle.mapfile_sorted.proofs.Promised.{reads_sorted}
use Rattle.mapfile_same.specs.Same.{Bytes, ReaderAccepts}
use Rattle.mapfile_same.proofs.ByteLaws.{bytes_at, bytes_drop}

four_bytes : (a b c d : ℕ) → a < 256 → b < 256 → c < 256 → d < 256 → word_bytes (((a * 256 + b) * 256 + c) * 256 + d) ≡ a ∷ b ∷ c ∷ d ∷ []
four_bytes a b c d ha hb hc hd =
    let w : ℕ = ((a * 256 + b) * 256 + c) * 256 + d in
    let e : w / 2 ^ 24 ≡ a = omega arith in
    let f : w / 2 ^ 16 % 256 ≡ b = omega arith in
    let g : w / 2 ^ 8 % 256 ≡ c = omega arith in
    let h : w % 256 ≡ d = omega arith in
    λ i. e i ∷ f i ∷ g i ∷ h i ∷ []

module _ (bs : List ℕ) (b : Bytes bs) where
  four_there : (p : ℕ) → p + 4 ≤ length bs → drop p bs ≡ get_or bs p 0 ∷ get_or bs (p + 1) 0 ∷ get_or bs (p + 2) 0 ∷ get_or bs (p + 3) 0 ∷ drop (p + 4) bs
  four_there p h =
      let z1 : p + 1 ≡ suc p = omega arith in
      let z2 : p + 2 ≡ suc (suc p) = omega arith in
      let z3 : p + 3 ≡ suc (suc (suc p)) = omega arith in
      let z4 : p + 4 ≡ suc (suc (suc (suc p))) = omega arith in
      rw (z1, z2, z3, z4, ← drop-cons bs (suc (suc (suc p))) 0 (omega arith), ← drop-cons bs (suc (suc p)) 0 (omega arith), ← drop-cons bs (suc p) 0 (omega arith)) (drop-cons bs p 0 (omega arith))

  word_bytes_lem : (p : ℕ) → p + 4 ≤ length bs → drop p bs ≡ word_bytes (word_at bs p) ++ drop (p + 4) bs
  unfolding word_at
  word_bytes_lem p h =
      let m = bytes_at bs b in
      four_there p h
      ∙ ap (λ (l : List ℕ). l ++ drop (p + 4) bs) (sym (four_bytes (get_or bs p 0) (get_or bs (p + 1) 0) (get_or bs (p + 2) 0) (get_or bs (p + 3) 0) (m p) (m (p + 1)) (m (p + 2)) (m (p + 3))))

  words_bytes_lem : (t p : ℕ) → p + 4 * t ≤ length bs → drop p bs ≡ words_bytes (words_at t bs p) ++ drop (p + 4 * t) bs
  unfolding words_bytes words_at
  words_bytes_lem zero p h = let z : p + 0 ≡ p = omega arith in rw z
  words_bytes_lem (suc t) p h =
      let z : p + 4 * suc t ≡ p + 4 + 4 * t = omega arith in
      rw z (word_bytes_lem p (omega arith) ∙ ap (λ (l : List ℕ). word_bytes (word_at bs p) ++ l) (words_bytes_lem t (p + 4) (omega arith)))

  entries_bytes_lem : (q p : ℕ) → p + 5 * q ≤ length bs → drop p bs ≡ entries_bytes (entries_at q bs p) ++ drop (p + 5 * q) bs
  unfolding entries_bytes entries_at
  entries_bytes_lem zero p h = let z : p + 0 ≡ p = omega arith in rw z
  entries_bytes_lem (suc q) p h =
      let z : p + 5 * suc q ≡ p + 5 + 5 * q = omega arith in
      let y : p + 1 + 4 ≡ p + 5 = omega arith in
      let o : p + 1 ≡ suc p = omega arith in
      let w : drop (p + 1) bs ≡ word_bytes (word_at bs (p + 1)) ++ drop (p + 5) bs = rw y at (word_bytes_lem (p + 1) (omega arith)) in
      let r : drop (p + 1) bs ≡ word_bytes (word_at bs (p + 1)) ++ (entries_bytes (entries_at q bs (p + 5)) ++ drop (p + 5 + 5 * q) bs) =
      w ∙ ap (λ (l : List ℕ). word_bytes (word_at bs (p + 1)) ++ l) (entries_bytes_lem q (p + 5) (omega arith)) in
      let f : drop p bs ≡ get_or bs p 0 ∷ drop (p + 1) bs = rw o (drop-cons bs p 0 (omega arith)) in
      rw z (f ∙ ap (λ (l : List ℕ). get_or bs p 0 ∷ l) r)

entries_at_length : (q : ℕ) (rs : List ℕ) (p : ℕ) → length (entries_at q rs p) ≡ q
unfolding entries_at
entries_at_length zero rs p = refl
entries_at_length (suc q) rs p = ap suc (entries_at_length q rs (p + 5))

section_bytes : (rs : List ℕ) (es : List Entry) → Bytes rs → Ends rs → entries_at (entry_count rs) rs 1 ≡ es → rs ≡ length es ∷ entries_bytes es
section_bytes rs es b w e =
    let q : ℕ = entry_count rs in
    let d : drop (1 + 5 * q) rs ≡ [] = rw (sym w) (drop-length rs) in
    let k : q ≡ length es = sym (entries_at_length q rs 1) ∙ ap length e in
    let r : drop 1 rs ≡ entries_bytes es = entries_bytes_lem rs b q 1 (omega (arith, w)) ∙ ap₂ (λ (fs : List Entry) (xs : List ℕ). entries_bytes fs ++ xs) e d ∙ append-nil (entries_bytes es) in
    drop-cons rs 0 0 (omega (arith, w)) ∙ ap₂ (λ (x : ℕ) (xs : List ℕ). x ∷ xs) k r

-- by what is known of rosters by rising account: the entries of an accepted file are those that the writer lists
pub file_bytes : (file slots : List ℕ) → Bytes file → ReaderAccepts file slots → file ≡ file_of (file_order file) (tiles_of file)
unfolding file_of ReadsSorted
file_bytes file slots b e =
    let p = (reads_sorted file slots).accepts.0 e in
    let t : ℕ = file_count file in
    let h = p.0.head in
    let room = (tiles_check_valid (file_order file) p.0.order t file (omega (arith, h)) p.0.words).0 in
    let k : length (tiles_of file) ≡ t = length-map (file_words file) tile_of ∙ words_at_length t file 5 in
    let s = section_bytes (section file) (roster_of (tiles_of file)) (bytes_drop (5 + 4 * t) file b) p.1 p.2 in
    rw (k, words_tiles (file_words file), ← s, ← words_bytes_lem file b t 5 room, ← word_bytes_lem file b 1 (omega (arith, room))) (drop-cons file 0 0 (omega (arith, room)))
