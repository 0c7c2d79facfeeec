-- Words joined (or) and compared (xor) bit by bit: what that does to the fields.
--     corner_or_left, -right   the corner of two words joined is no smaller than that of either
--     Within m w               of the word w nothing is set but the lowest 2 m bits of the corner
--     Alike m v w              two words of one size and account whose corners are in one block of size m
--     xor_within               their xor is within m; within-xor, the converse
--     or_within                two words within m joined are; within-or, the converse
use mathlib.Core.Path.{◌≡◌, ap, sym, ◌∙◌}
use Prim.Native.Nat.{ℕ, ◌*◌, ◌/◌, ◌%◌, ◌^◌, ◌≤◌, ◌<◌}
use native.Mathlib.Nat.{div-add-mod', div-eq_of_lt, mod-lt, one-le-pow}
use native.Mathlib.Omega.{arith}
use lib.Bits.{bit_or, bit_xor, and_le_l, and_le_r, or_add_and, or_lt, or_mod, or_shr, xor_add_and, xor_mod, xor_shr, xor_self}
use Rattle.tile.specs.Tile.{tile_of}
use Rattle.tile.proofs.Bits.{two_four}

or_le : (a b : ℕ) → (a ≤ bit_or a b) × (b ≤ bit_or a b)
or_le a b =
    let e = or_add_and a b in
    let l = and_le_l a b in
    let r = and_le_r a b in
    (omega arith, omega arith)

module _ (v w : ℕ) where
  pub corner_or_left : (tile_of v).corner ≤ (tile_of (bit_or v w)).corner
  unfolding tile_of
  corner_or_left = rw (or_shr v w 10) (or_le (v / 2 ^ 10) (w / 2 ^ 10)).0

  pub corner_or_right : (tile_of w).corner ≤ (tile_of (bit_or v w)).corner
  unfolding tile_of
  corner_or_right = rw (or_shr v w 10) (or_le (v / 2 ^ 10) (w / 2 ^ 10)).1

pub record Within (m w : ℕ) : Type 0 where
  pub account : (tile_of w).account ≡ 0
  pub size : (tile_of w).size ≡ 0
  pub corner : (tile_of w).corner < 4 ^ m

pub record Alike (m v w : ℕ) : Type 0 where
  pub account : (tile_of v).account ≡ (tile_of w).account
  pub size : (tile_of v).size ≡ (tile_of w).size
  pub block : (tile_of v).corner / 4 ^ m ≡ (tile_of w).corner / 4 ^ m

-- the xor of the same is 0
same_xor : {a b : ℕ} → a ≡ b → bit_xor a b ≡ 0
same_xor {a} {b} e = ap (λ (x : ℕ). bit_xor x b) e ∙ xor_self b

-- numbers that differ only in their lowest 2 m bits
xor_low : (m a b : ℕ) → a / 4 ^ m ≡ b / 4 ^ m → bit_xor a b < 4 ^ m
xor_low m a b e =
    let t = two_four m in
    let q : bit_xor a b / 4 ^ m ≡ 0 = rw (← t) (xor_shr a b (2 * m)) ∙ same_xor e in
    omega (arith, rw q at (div-add-mod' (bit_xor a b) (4 ^ m)), mod-lt (bit_xor a b) (one-le-pow m 4 (omega arith)))

pub xor_within : (m v w : ℕ) → Alike m v w → Within m (bit_xor v w)
unfolding tile_of
xor_within m v w s = record {
  account = xor_mod v w 6 ∙ same_xor s.account;
  size = ap (λ (x : ℕ). x % 2 ^ 4) (xor_shr v w 6) ∙ xor_mod (v / 2 ^ 6) (w / 2 ^ 6) 4 ∙ same_xor s.size;
  corner = rw (xor_shr v w 10) (xor_low m (v / 2 ^ 10) (w / 2 ^ 10) s.block);
}

nothing_or : {a b : ℕ} → a ≡ 0 → b ≡ 0 → bit_or a b ≡ 0
nothing_or {a} {b} e f = omega (arith, or_add_and a b)

pub or_within : (m v w : ℕ) → Within m v → Within m w → Within m (bit_or v w)
unfolding tile_of
or_within m v w p q = record {
  account = or_mod v w 6 ∙ nothing_or p.account q.account;
  size = ap (λ (x : ℕ). x % 2 ^ 4) (or_shr v w 6) ∙ or_mod (v / 2 ^ 6) (w / 2 ^ 6) 4 ∙ nothing_or p.size q.size;
  corner = rw (or_shr v w 10, ← two_four m) (or_lt (2 * m) (v / 2 ^ 10) (w / 2 ^ 10) (rw (two_four m) p.corner) (rw (two_four m) q.corner));
}

or_nothing : {a b : ℕ} → bit_or a b ≡ 0 → (a ≡ 0) × (b ≡ 0)
or_nothing {a} {b} e = let l = or_le a b in (omega arith, omega arith)

pub within_or : (m v w : ℕ) → Within m (bit_or v w) → Within m v × Within m w
unfolding tile_of
within_or m v w p =
    let a = or_nothing (sym (or_mod v w 6) ∙ p.account) in
    let k = or_nothing (sym (ap (λ (x : ℕ). x % 2 ^ 4) (or_shr v w 6) ∙ or_mod (v / 2 ^ 6) (w / 2 ^ 6) 4) ∙ p.size) in (
      record { account = a.0; size = k.0; corner = omega (arith, p.corner, corner_or_left v w) },
      record { account = a.1; size = k.1; corner = omega (arith, p.corner, corner_or_right v w) },
    )

xor_same : {a b : ℕ} → bit_xor a b ≡ 0 → a ≡ b
xor_same {a} {b} e = omega (arith, xor_add_and a b, and_le_l a b, and_le_r a b)

pub within_xor : (m v w : ℕ) → Within m (bit_xor v w) → Alike m v w
unfolding tile_of
within_xor m v w p = record {
  account = xor_same (sym (xor_mod v w 6) ∙ p.account);
  size = xor_same (sym (ap (λ (x : ℕ). x % 2 ^ 4) (xor_shr v w 6) ∙ xor_mod (v / 2 ^ 6) (w / 2 ^ 6) 4) ∙ p.size);
  block =
      let t = two_four m in
      let l : bit_xor (v / 2 ^ 10) (w / 2 ^ 10) < 4 ^ m = rw (← xor_shr v w 10) p.corner in
      xor_same (sym (rw (← t) (xor_shr (v / 2 ^ 10) (w / 2 ^ 10) (2 * m))) ∙ div-eq_of_lt l);
}
