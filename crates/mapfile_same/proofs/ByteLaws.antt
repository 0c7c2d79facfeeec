-- Laws of lists of bytes.
--     bytes_at       the number at each place is a byte; bytes-all, where it is, all are
--     bytes_drop     bytes without the first ones
--     bytes_append   bytes behind bytes
--     file_of_is_bytes  the file of a valid list is of bytes
use mathlib.Core.Path.{refl}
use mathlib.Core.List.Memᴰ
use mathlib.Core.List.{List, [], ◌∷◌, ◌++◌, map}
use mathlib.Core.Logic.{inl, inr}
use Prim.Native.Nat.{ℕ, zero, suc, ◌+◌, ◌^◌, ◌≤◌, ◌<◌}
use native.Mathlib.Omega.{arith}
use lib.ListN.{length, drop, get_or}
use Rattle.basics.proofs.Tests.{test_leb}
use Rattle.basics.proofs.ChoiceLaws.{by_if}
use Rattle.tile.specs.declared.Tile.{Tile}
use Rattle.tile.specs.Tile.{word_of, highest_order, highest_account}
use Rattle.quadtree.specs.Raster.{◌∈◌}
use Rattle.quadtree.specs.Valid.{Valid}
use Rattle.quadtree.proofs.Alignment.{area_mono}
use Rattle.quadtree.proofs.ValidLaws.{valid_length}
use Rattle.mapfile_roster.specs.declared.Entry.{Entry}
use Rattle.mapfile_roster.specs.Roster.{covered, roster_from, roster_of}
use Rattle.mapfile_roster.proofs.CoveredLaws.{covered_fits}
use Rattle.mapfile_roster.proofs.RosterLaws.{roster_of_few}
use Rattle.mapfile_sections.specs.Sections.{word_bytes, words_bytes, entries_bytes}
use Rattle.mapfile_write.specs.Writer.{file_of}
use Rattle.mapfile_laws.proofs.RoundTrip.{low}
use Rattle.mapfile_same.specs.Same.{Bytes}

pub bytes_at : (bs : List ℕ) → Bytes bs → (i : ℕ) → get_or bs i 0 < 256
bytes_at [] h i = omega arith
bytes_at (x ∷ bs) h zero = omega (arith, h x (Memᴰ.head refl))
bytes_at (x ∷ bs) h (suc i) = bytes_at bs (λ b m. h b (Memᴰ.tail m)) i

pub bytes_all : (bs : List ℕ) → ((i : ℕ) → get_or bs i 0 < 256) → Bytes bs
bytes_all [] h b m = absurd (Memᴰ.not-nil m)
bytes_all (x ∷ bs) h b m = elim (Memᴰ.cases_cons m) [ inl e ↦ omega (arith, h 0) | inr n ↦ bytes_all bs (λ i. h (suc i)) b n ]

pub bytes_drop : (p : ℕ) (bs : List ℕ) → Bytes bs → Bytes (drop p bs)
bytes_drop zero bs h = h
bytes_drop (suc p) [] h = h
bytes_drop (suc p) (x ∷ bs) h = bytes_drop p bs (λ b m. h b (Memᴰ.tail m))

bytes_none : Bytes []
bytes_none b m = absurd (Memᴰ.not-nil m)

bytes_more : (x : ℕ) {bs : List ℕ} → x < 256 → Bytes bs → Bytes (x ∷ bs)
bytes_more x l h b m = elim (Memᴰ.cases_cons m) [ inl e ↦ omega arith | inr n ↦ h b n ]

pub bytes_append : (xs : List ℕ) {ys : List ℕ} → Bytes xs → Bytes ys → Bytes (xs ++ ys)
bytes_append xs h k b m = elim (Memᴰ.append_cases xs m) [ inl n ↦ h b n | inr n ↦ k b n ]

bytes_word : (w : ℕ) → w < 2 ^ 32 → Bytes (word_bytes w)
bytes_word w h = bytes_more _ (omega arith) (bytes_more _ (omega arith) (bytes_more _ (omega arith) (bytes_more _ (omega arith) bytes_none)))

bytes_words : (ts : List Tile) → ((t : Tile) → t ∈ ts → word_of t < 2 ^ 32) → Bytes (words_bytes (map word_of ts))
unfolding words_bytes
bytes_words [] h = bytes_none
bytes_words (t ∷ ts) h = bytes_append (word_bytes (word_of t)) (bytes_word (word_of t) (h t (Memᴰ.head refl))) (bytes_words ts (λ u m. h u (Memᴰ.tail m)))

-- the entries of those of the k accounts from a on that have tiles
bytes_roster : (ts : List Tile) → ((a : ℕ) → covered a ts < 2 ^ 32) → (a k : ℕ) → a + k ≤ 256 → Bytes (entries_bytes (roster_from ts a k))
unfolding roster_from entries_bytes
bytes_roster ts h a zero l = bytes_none
bytes_roster ts h a (suc k) l = by_if (λ (es : List Entry). Bytes (entries_bytes es)) (test_leb 1 (covered a ts))
    (λ c. bytes_more a (omega arith) (bytes_append (word_bytes (covered a ts)) (bytes_word (covered a ts) (h a)) (bytes_roster ts h (suc a) k (omega arith))))
    (λ c. bytes_roster ts h (suc a) k (omega arith))

pub file_of_is_bytes : (n : ℕ) (ts : List Tile) → n ≤ highest_order → Valid n ts → ((t : Tile) → t ∈ ts → t.account ≤ highest_account) → Bytes (file_of n ts)
unfolding file_of
file_of_is_bytes n ts o v a =
    let l : 4 ^ n ≤ 4 ^ highest_order = area_mono o in
    bytes_more n (omega arith) (bytes_append (word_bytes (length ts)) (bytes_word (length ts) (omega (arith, valid_length v)))
    (bytes_append (words_bytes (map word_of ts)) (bytes_words ts (low n ts o v a))
    (bytes_more (length (roster_of ts)) (omega (arith, roster_of_few ts)) (bytes_roster ts (λ b. omega (arith, covered_fits b o v)) 1 highest_account (omega arith)))))
