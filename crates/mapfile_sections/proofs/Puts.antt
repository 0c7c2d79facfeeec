-- Bytes put one after the other: `sets xs p vs` is xs with vs stored from p on.
--     sets_append        what is stored behind a part that is stored is stored with it
--     sets_front         what is stored from the start on, and what is left behind it
--     part_all           the part behind p is what is left without the first p
--     part_put           what is stored into that part is stored from p on; part_same, the whole is as long as before
--     put_word           four bytes stored are a word's
--     words_on, -end     words stored one by one: those left are still to be stored
use mathlib.Core.Path.{◌≡◌, ap, sym, ◌∙◌}
use mathlib.Core.List.{List, [], ◌∷◌, ◌++◌, append_assoc, append-nil}
use Prim.Native.Nat.{ℕ, suc, ◌+◌, ◌-◌, ◌/◌, ◌%◌, ◌^◌, ◌≤◌, ◌<◌}
use native.Mathlib.Nat.{add-zero}
use native.Mathlib.Omega.{arith}
use native.Mathlib.Numerals.{add-one, add-two, add-three}
use lib.ListN.{length, take, drop, get_or, set, length-drop}
use lib.Seq.{sets, sets-eq, length-sets, take_all, drop-drop, drop-cons, drop-length}
use borrow.Rule.Slice.PartMut.{same_len_mid}
use Rattle.mapfile_sections.specs.Sections.{word_bytes, words_bytes}

pub sets_append : (xs : List ℕ) (p : ℕ) (vs ws : List ℕ) → sets xs p (vs ++ ws) ≡ sets (sets xs p vs) (p + length vs) ws
sets_append xs p [] ws = rw (add-zero p)
sets_append xs p (v ∷ vs) ws = let e : p + suc (length vs) ≡ suc p + length vs = omega arith in rw e (sets_append (set xs p v) (suc p) vs ws)

pub sets_front : (xs vs : List ℕ) → length vs ≤ length xs → sets xs 0 vs ≡ vs ++ drop (length vs) xs
sets_front xs vs h = let z : 0 + length vs ≡ length vs = omega arith in sets-eq vs xs 0 (rw z h) ∙ rw z

pub part_all : (xs : List ℕ) (p : ℕ) → take (length xs - p) (drop p xs) ≡ drop p xs
part_all xs p = take_all (length xs - p) (drop p xs) (omega (arith, length-drop p xs))

pub part_put : (xs ys : List ℕ) (p : ℕ) (vs : List ℕ) → p + length vs ≤ length xs → ys ≡ sets (take (length xs - p) (drop p xs)) 0 vs →
    take p xs ++ (ys ++ drop (length xs - p) (drop p xs)) ≡ sets xs p vs
part_put xs ys p vs h e =
    let l : length (drop p xs) ≡ length xs - p = length-drop p xs in
    let b : drop (length xs - p) (drop p xs) ≡ [] = rw (← l) (drop-length (drop p xs)) in
    let y : ys ≡ vs ++ drop (p + length vs) xs = e ∙ rw (part_all xs p) (sets_front (drop p xs) vs (omega arith)) ∙ ap (λ (r : List ℕ). vs ++ r) (drop-drop (length vs) p xs) in
    rw (b, y, append-nil (vs ++ drop (p + length vs) xs)) (sym (append_assoc (take p xs) vs (drop (p + length vs) xs))) ∙ sym (sets-eq vs xs p h)

pub part_same : (xs ys : List ℕ) (p : ℕ) (vs : List ℕ) → ys ≡ sets (take (length xs - p) (drop p xs)) 0 vs → length (take p xs ++ (ys ++ drop (length xs - p) (drop p xs))) ≡ length xs
part_same xs ys p vs e = same_len_mid p (length xs - p) xs ys (ap length e ∙ length-sets (take (length xs - p) (drop p xs)) 0 vs)

pub put_word : (xs : List ℕ) (at w a b c d : ℕ) → w < 2 ^ 32 → a ≡ w / 2 ^ 24 % 256 → b ≡ w / 2 ^ 16 % 256 → c ≡ w / 2 ^ 8 % 256 → d ≡ w % 256
    → set (set (set (set xs at a) (at + 1) b) (at + 2) c) (at + 3) d ≡ sets xs at (word_bytes w)
put_word xs at w a b c d l ea eb ec ed =
    let e : w / 2 ^ 24 % 256 ≡ w / 2 ^ 24 = omega arith in
    rw (add-one at, add-two at, add-three at, ea, eb, ec, ed, e)

module _ {all : List ℕ} (xs ws : List ℕ) (i p : ℕ) (e : all ≡ sets xs p (words_bytes (drop i ws))) where
  pub words_on : (ys : List ℕ) (w q : ℕ) → i < length ws → get_or ws i 0 ≡ w → q ≡ p + 4 → ys ≡ sets xs p (word_bytes w) → all ≡ sets ys q (words_bytes (drop (i + 1) ws))
  unfolding words_bytes
  words_on ys w q h ew eq ey = e ∙ rw (drop-cons ws i 0 h, ew, add-one i, ey, eq) (sets_append xs p (word_bytes w) (words_bytes (drop (suc i) ws)))

  pub words_end : i ≡ length ws → xs ≡ all
  unfolding words_bytes
  words_end h = let d : drop i ws ≡ [] = rw h (drop-length ws) in sym (e ∙ rw d)
