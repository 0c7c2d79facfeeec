-- The words of a file stored one by one, and the slots behind them cleared.
--     store_on, store_end   the words in front are the file's, those behind are untouched: one word more, and the last
--     store_clear           the words stored, and the rest of the slots 0
--     store_room            slots that hold the words are at least as many
--     part_end              a part to the end is what is left
use mathlib.Core.Path.{◌≡◌, ap, sym, ◌∙◌}
use mathlib.Core.List.{List, ◌++◌}
use Prim.Native.Nat.{ℕ, suc, ◌+◌, ◌-◌, ◌≤◌, ◌<◌}
use native.Mathlib.Omega.{arith}
use native.Mathlib.Numerals.{add-one}
use lib.ListN.{length, get_or, take, drop, set, replicate, length-append, length-drop}
use lib.Seq.{drop-cons, set_at, take-suc, append_snoc, length-take-le, take_all, take_at}
use Rattle.mapfile_bytes.specs.Items.{words_at}
use Rattle.mapfile_bytes.proofs.ItemsLaws.{words_at_length}

pub store_on : (t s ws : List ℕ) (i v : ℕ) → t ≡ take i ws ++ drop i s → i < length ws → i < length s → get_or ws i 0 ≡ v → set t i v ≡ take (i + 1) ws ++ drop (i + 1) s
store_on t s ws i v e h l ev =
    rw (e, drop-cons s i 0 l, set_at (take i ws) (get_or s i 0) (drop (suc i) s) v i (length-take-le i ws (omega arith)), add-one i, take-suc ws i 0 h, ev) (sym (append_snoc (take i ws) v (drop (suc i) s)))

pub store_end : (t s ws : List ℕ) (i : ℕ) → t ≡ take i ws ++ drop i s → i ≡ length ws → t ≡ ws ++ drop i s
store_end t s ws i e h = e ∙ rw (take_all i ws (omega arith))

pub store_clear : (t s ws u : List ℕ) (n : ℕ) → length ws ≡ n → n ≤ length s → t ≡ ws ++ drop n s → u ≡ take n t ++ replicate (length t - n) 0 → u ≡ ws ++ replicate (length s - n) 0
store_clear t s ws u n l h e f =
    let k : length t ≡ length s = ap length e ∙ length-append ws (drop n s) ∙ omega (arith, length-drop n s) in
    f ∙ rw (k, e, take_at ws (drop n s) n l)

pub store_room : (t s bs : List ℕ) (n p : ℕ) → t ≡ words_at n bs p ++ drop n s → n ≤ length t
store_room t s bs n p e = omega (arith, ap length e, length-append (words_at n bs p) (drop n s), words_at_length n bs p)

pub part_end : (xs : List ℕ) (a : ℕ) → take (length xs - a) (drop a xs) ≡ drop a xs
part_end xs a = take_all (length xs - a) (drop a xs) (omega (arith, length-drop a xs))
