-- Laws of the numbers in the bytes of a file.
--     words_at_length   there are as many words as are asked for
--     words_at_at       the word at a place of them
--     word_at_drop      a number is read from where it stands
--     word_whole       a number is that of its 4 bytes
--     word_at_take     a number is read from a part that has its bytes
--     words_at_drop    words are read from where they stand
--     words_in         bytes in fours are words
--     get_or_word      each of them by its bytes
use mathlib.Core.Path.{◌≡◌, refl, ap, ◌∙◌}
use mathlib.Core.List.{List, [], map}
use Prim.Native.Nat.{ℕ, zero, suc, ◌+◌, ◌*◌, ◌/◌, ◌%◌, ◌^◌, ◌<◌}
use native.Mathlib.Omega.{arith}
use lib.ListN.{length, take, drop, get_or, get_or-map}
use lib.Seq.{get_or-drop, get_or-take}
use Rattle.std.specs.Simd.{first_chunks}
use Rattle.mapfile_bytes.specs.Items.{word_at, words_at}

pub words_at_length : (t : ℕ) (bs : List ℕ) (p : ℕ) → length (words_at t bs p) ≡ t
unfolding words_at
words_at_length zero bs p = refl
words_at_length (suc t) bs p = ap suc (words_at_length t bs (p + 4))

pub words_at_at : (t : ℕ) (bs : List ℕ) (p i : ℕ) → i < t → get_or (words_at t bs p) i 0 ≡ word_at bs (p + 4 * i)
unfolding words_at
words_at_at zero bs p i h = absurd (omega arith)
words_at_at (suc t) bs p zero h = ap (word_at bs) (omega arith)
words_at_at (suc t) bs p (suc i) h = let e : p + 4 + 4 * i ≡ p + 4 * suc i = omega arith in rw (words_at_at t bs (p + 4) i (omega arith), e)

pub word_at_drop : (bs : List ℕ) (p : ℕ) → word_at bs p ≡ word_at (drop p bs) 0
unfolding word_at
word_at_drop bs p =
    let z : p + 0 ≡ p = omega arith in
    rw (get_or-drop p bs 0 0, get_or-drop p bs 1 0, get_or-drop p bs 2 0, get_or-drop p bs 3 0, z)

pub word_whole : (w : ℕ) → w < 2 ^ 32 → ((w / 2 ^ 24 * 256 + w / 2 ^ 16 % 256) * 256 + w / 2 ^ 8 % 256) * 256 + w % 256 ≡ w
word_whole w h = omega arith

pub word_at_take : (n : ℕ) (bs : List ℕ) (p : ℕ) → p + 3 < n → word_at (take n bs) p ≡ word_at bs p
unfolding word_at
word_at_take n bs p h =
    let g : (i : ℕ) → i < n → get_or (take n bs) i 0 ≡ get_or bs i 0 = λ i l. get_or-take n bs i 0 l in
    rw (g p (omega arith), g (p + 1) (omega arith), g (p + 2) (omega arith), g (p + 3) (omega arith)) refl

pub words_at_drop : (n t : ℕ) (bs : List ℕ) (p : ℕ) → words_at t (drop n bs) p ≡ words_at t bs (n + p)
unfolding words_at word_at
words_at_drop n zero bs p = refl
words_at_drop n (suc t) bs p =
    let g : (i : ℕ) → get_or (drop n bs) (p + i) 0 ≡ get_or bs (n + p + i) 0 = λ i. get_or-drop n bs (p + i) 0 ∙ ap (λ (k : ℕ). get_or bs k 0) (omega arith) in
    let g0 : get_or (drop n bs) p 0 ≡ get_or bs (n + p) 0 = get_or-drop n bs p 0 in
    let e : n + (p + 4) ≡ n + p + 4 = omega arith in
    rw (g0, g 1, g 2, g 3, words_at_drop n t bs (p + 4), e) refl

pub words_in : (t : ℕ) (bs : List ℕ) → map (λ w. word_at w 0) (first_chunks 4 t bs) ≡ words_at t bs 0
unfolding words_at
words_in zero bs = refl
words_in (suc t) bs = rw (word_at_take 4 bs 0 (omega arith), words_in t (drop 4 bs), words_at_drop 4 t bs 0) refl

pub get_or_word : (ws : List (List ℕ)) (i : ℕ) → get_or (map (λ w. word_at w 0) ws) i 0 ≡ word_at (get_or ws i []) 0
unfolding word_at
get_or_word ws i = get_or-map (λ w. word_at w 0) ws i []
