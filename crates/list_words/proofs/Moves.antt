-- What `copy_within` leaves, in slices of the list that it moves.
--     moved_by        the words from i to n, moved to j, where so many are moved
--     moved           the same of n - i words
--     front_pieces    the front of a list cut in two
--     back_pieces     its tail cut in two
use mathlib.Core.Path.{◌≡◌, ◌∙◌, refl, ap, sym}
use Prim.Native.Nat.{ℕ, ◌+◌, ◌-◌, ◌≤◌}
use mathlib.Core.List.{List, ◌++◌}
use native.Mathlib.Omega.{arith}
use lib.ListN.{length, take, drop, take-append-drop}
use lib.Seq.{slice, paste, drop-append-le, take-take, length-take-le}
use Rattle.std.proofs.lemmas.List.{drop-take}

pub front_pieces : (s : List ℕ) (j i : ℕ) → j ≤ i → take j s ++ slice j i s ≡ take i s
front_pieces s j i h = ap (λ (l : List ℕ). l ++ slice j i s) (sym (take-take j i s h)) ∙ take-append-drop j (take i s)

pub back_pieces : (s : List ℕ) (b j : ℕ) → b ≤ j → j ≤ length s → slice b j s ++ drop j s ≡ drop b s
back_pieces s b j h g =
    let l : length (take j s) ≡ j = length-take-le j s g in
    sym (drop-append-le b (take j s) (drop j s) (omega arith)) ∙ ap (drop b) (take-append-drop j s)

pub moved_by : (s : List ℕ) (i n j l e : ℕ) → i ≤ n → l ≡ n - i → e ≡ j + (n - i) → paste s j (drop i s) l ≡ take j s ++ slice i n s ++ drop e s
moved_by s i n j l e h k q =
    let m : n ≡ i + (n - i) = omega arith in
    let p : drop i (take n s) ≡ take (n - i) (drop i s) = (rw (← m) at (drop-take i (n - i) s)) in
    rw (k, p, q)

pub moved : (s : List ℕ) (i n j e : ℕ) → i ≤ n → e ≡ j + (n - i) → paste s j (drop i s) (n - i) ≡ take j s ++ slice i n s ++ drop e s
moved s i n j e h q = moved_by s i n j (n - i) e h refl q
