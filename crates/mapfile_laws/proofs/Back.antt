-- Words, entries and rosters that were written are read back.
--     words_back      the words of a list
--     entries_back    the entries of a roster
--     rise_back       entries by rising account pass, one by one
--     roster_back     a roster section that is its tiles', by rising account, is accepted
use mathlib.Core.Path.{◌≡◌, ap, ap₂, refl, sym, ◌∙◌}
use mathlib.Core.Bool.{true}
use mathlib.Core.List.{List, [], ◌∷◌, ◌++◌, map, append-nil, Memᴰ}
use Prim.Native.Nat.{ℕ, suc, ◌+◌, ◌*◌, ◌^◌, ◌≤◌, ◌<◌}
use native.Mathlib.Omega.{arith}
use lib.ListN.{length, drop, get_or}
use lib.Seq.{drop-drop, get_or-drop}
use borrow.Author.Tests.{le-leb}
use Rattle.basics.proofs.Tests.{test_leb}
use Rattle.refusal.specs.Refusal.{accepted, file_cut_short, roster_unsorted}
use Rattle.refusal.specs.Checks.{must, or_else}
use Rattle.refusal.proofs.CheckLaws.{must_pass}
use Rattle.tile.specs.declared.Tile.{Tile}
use Rattle.tile.specs.Tile.{word_of}
use Rattle.quadtree.specs.Raster.{◌∈◌}
use Rattle.mapfile_bytes.specs.Items.{word_at, words_at}
use Rattle.mapfile_bytes.proofs.ItemsLaws.{word_at_drop, word_whole}
use Rattle.mapfile_roster.specs.declared.Entry.{Entry}
use Rattle.mapfile_roster.specs.Roster.{roster_good}
use Rattle.mapfile_roster.proofs.RosterLaws.{ByAccount, link, by_account_down}
use Rattle.mapfile_entries.specs.RosterCheck.{entries_at, entries_check, roster_check}
use Rattle.mapfile_sections.specs.Sections.{word_bytes, words_bytes, entries_bytes}
use Rattle.mapfile_sections.proofs.Passes.{length_entries_bytes}

-- a word at p, behind which the rest stands
word_back : (w : ℕ) (bs rest : List ℕ) (p : ℕ) → w < 2 ^ 32 → drop p bs ≡ word_bytes w ++ rest → word_at bs p ≡ w
unfolding word_at
word_back w bs rest p h e = word_at_drop bs p ∙ ap (λ (l : List ℕ). word_at l 0) e ∙ word_whole w h

pub words_back : (ts : List Tile) (bs rest : List ℕ) (p : ℕ) → ((t : Tile) → t ∈ ts → word_of t < 2 ^ 32) → drop p bs ≡ words_bytes (map word_of ts) ++ rest → words_at (length ts) bs p ≡ map word_of ts
unfolding words_at words_bytes
words_back [] bs rest p h e = refl
words_back (t ∷ ts) bs rest p h e =
    let d : drop (p + 4) bs ≡ words_bytes (map word_of ts) ++ rest = sym (drop-drop 4 p bs) ∙ ap (drop 4) e in
    ap₂ (λ (x : ℕ) (xs : List ℕ). x ∷ xs) (word_back (word_of t) bs (words_bytes (map word_of ts) ++ rest) p (h t (Memᴰ.head refl)) e) (words_back ts bs rest (p + 4) (λ u m. h u (Memᴰ.tail m)) d)

-- the account of an entry at p
account_back : (x : Entry) (bs rest : List ℕ) (p : ℕ) → drop p bs ≡ x.account ∷ rest → get_or bs p 0 ≡ x.account
account_back x bs rest p e =
    let z : p + 0 ≡ p = omega arith in
    rw z at (sym (get_or-drop p bs 0 0)) ∙ ap (λ (l : List ℕ). get_or l 0 0) e

pub entries_back : (es : List Entry) (bs rest : List ℕ) (p : ℕ) → ((e : Entry) → Memᴰ e es → e.pixels < 2 ^ 32) → drop p bs ≡ entries_bytes es ++ rest → entries_at (length es) bs p ≡ es
unfolding entries_at entries_bytes
entries_back [] bs rest p h e = refl
entries_back (x ∷ es) bs rest p h e =
    let d : drop (p + 5) bs ≡ entries_bytes es ++ rest = sym (drop-drop 5 p bs) ∙ ap (drop 5) e in
    let f : drop (p + 1) bs ≡ word_bytes x.pixels ++ (entries_bytes es ++ rest) = sym (drop-drop 1 p bs) ∙ ap (drop 1) e in
    let g = account_back x bs (word_bytes x.pixels ++ entries_bytes es ++ rest) p e in
    let k : word_at bs (p + 1) ≡ x.pixels = word_back x.pixels bs (entries_bytes es ++ rest) (p + 1) (h x (Memᴰ.head refl)) f in
    let r = entries_back es bs rest (p + 5) (λ v m. h v (Memᴰ.tail m)) d in
    λ i. record { account = g i; pixels = k i } ∷ r i

pub rise_back : (es : List Entry) (bs rest : List ℕ) (p least : ℕ) → ByAccount least es → drop p bs ≡ entries_bytes es ++ rest → p + 5 * length es ≤ length bs → entries_check (length es) least bs p ≡ accepted
unfolding entries_check entries_bytes
rise_back [] bs rest p least r e h = refl
rise_back (x ∷ es) bs rest p least (link l r) e h =
    let d : drop (p + 5) bs ≡ entries_bytes es ++ rest = sym (drop-drop 5 p bs) ∙ ap (drop 5) e in
    let g = account_back x bs (word_bytes x.pixels ++ entries_bytes es ++ rest) p e in
    must_pass file_cut_short (test_leb (p + 5) (length bs)) (omega arith)
    (must_pass roster_unsorted (test_leb least (get_or bs p 0)) (rw g l) (rise_back es bs rest (p + 5) (suc (get_or bs p 0)) (rw g r) d (omega arith)))

pub roster_back : (ts : List Tile) (es : List Entry) {lo : ℕ} → ByAccount lo es → roster_good ts es ≡ true → ((e : Entry) → Memᴰ e es → e.pixels < 2 ^ 32) → roster_check ts (length es ∷ entries_bytes es) ≡ accepted
unfolding roster_check must or_else
roster_back ts es r g low =
    let l = length_entries_bytes es in
    let n : ℕ = length (entries_bytes es) in
    let rest = sym (append-nil (entries_bytes es)) in
    simp (
      le-leb 1 (suc n) (omega arith),
      rise_back es (length es ∷ entries_bytes es) [] 1 0 (by_account_down (omega arith) r) rest (omega arith),
      le-leb (suc n) (1 + 5 * length es) (omega arith),
      entries_back es (length es ∷ entries_bytes es) [] 1 low rest,
      g,
    )
