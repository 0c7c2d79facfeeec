-- Bytes looked at in turn: the laws that the loops cite.
--     quad_most, quads_most, pairs_most   sums that fit
--     none_above                no byte yet
--     range_above               bytes looked at as a slice
--     pairs_room                the next pair of rows is there
--     rows_join                 pairs of rows, and those behind them
use mathlib.Core.Path.{◌≡◌, ap}
use mathlib.Core.List.{List}
use Prim.Native.Nat.{ℕ, ◌+◌, ◌-◌, ◌*◌, ◌≤◌, ◌<◌}
use native.Mathlib.Nat.{mul-le-mul_right, add-mul}
use native.Mathlib.Omega.{arith}
use lib.ListN.{length, take, drop, length-drop}
use lib.Seq.{length-take-le, get_or-take, get_or-drop}
use Rattle.scan_stretch.specs.Weight.{total}
use Rattle.scan_stretch.proofs.Quads.{weight_most}
use Rattle.scan_stretch.proofs.Totals.{total_most, total_add, total_same}
use Rattle.scan_weigh.specs.Weighed.{quad_from, pair_from, rows_from, NoneAbove}

pub quad_most : (bytes : List ℕ) (w i : ℕ) → quad_from bytes w i ≤ 4
quad_most bytes w i = weight_most _ _ _ _

pub quads_most : (bytes : List ℕ) (w i lo n : ℕ) → total (λ j. quad_from bytes w (i + 2 * j)) lo n ≤ n * 4
quads_most bytes w i lo n = total_most (λ j. quad_from bytes w (i + 2 * j)) 4 lo n (λ j. quad_most bytes w (i + 2 * j))

-- a pair weighs no more than it has bytes
pub pairs_most : (bytes : List ℕ) (w q i h : ℕ) → w ≡ 2 * q → rows_from bytes w q i h ≤ h * (2 * w)
pairs_most bytes w q i h e = total_most (λ j. pair_from bytes w q (i + j * (2 * w))) (2 * w) 0 h (λ j. omega (arith, quads_most bytes w (i + j * (2 * w)) 0 q))

pub none_above : (bytes : List ℕ) (lo a : ℕ) → NoneAbove bytes lo lo a
none_above bytes lo a i l u = absurd (omega arith)

-- looked at as a slice
pub range_above : (bytes : List ℕ) (lo hi a : ℕ) → hi ≤ length bytes → NoneAbove (take (hi - lo) (drop lo bytes)) 0 (length (take (hi - lo) (drop lo bytes))) a → NoneAbove bytes lo hi a
range_above bytes lo hi a h w i l u =
    let part = drop lo bytes in
    let e : lo + (i - lo) ≡ i = omega arith in
    let len : length (take (hi - lo) part) ≡ hi - lo = length-take-le (hi - lo) part (omega (arith, length-drop lo bytes)) in
    rw (get_or-take (hi - lo) part (i - lo) 0 (omega arith), get_or-drop lo bytes (i - lo) 0, e) at (w (i - lo) (omega arith) (omega arith))

pub pairs_room : (j h w at n : ℕ) → j < h → at + h * (2 * w) ≤ n → at + j * (2 * w) + 2 * w ≤ n
pairs_room j h w at n l r = omega (arith, mul-le-mul_right (2 * w) (let s : j + 1 ≤ h = omega arith in s), add-mul j 1 (2 * w))

pub rows_join : (bytes : List ℕ) (w q i a b : ℕ) → rows_from bytes w q i a + rows_from bytes w q (i + a * (2 * w)) b ≡ rows_from bytes w q i (a + b)
rows_join bytes w q i a b =
    let z : 0 + a ≡ a = omega arith in
    let same = total_same (λ j. pair_from bytes w q (i + j * (2 * w))) (λ j. pair_from bytes w q (i + a * (2 * w) + j * (2 * w))) a 0 b (λ j l.
    let e : i + (a + j) * (2 * w) ≡ i + a * (2 * w) + (0 + j) * (2 * w) = omega (arith, add-mul a j (2 * w), ap (λ (x : ℕ). x * (2 * w)) (let y : 0 + j ≡ j = omega arith in y)) in
    ap (pair_from bytes w q) e) in
    omega (arith, same, rw z at (total_add (λ j. pair_from bytes w q (i + j * (2 * w))) 0 a b))
