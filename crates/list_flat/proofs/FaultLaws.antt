-- What the test of one word shows.
--     area_of_lem              the area as the code computes it
--     remainder_aligned    no remainder: the tile is aligned
--     quarters_within      the words of four siblings differ in nothing but the corner, and there by less than their block
--     third_fails          where the test of siblings fails and its first two parts hold, the third does not
use mathlib.Core.Path.{◌≡◌, ap, ap₂, sym, ◌∙◌}
use mathlib.Core.Bool.{Bool, true, false, ◌&&◌}
use Prim.Native.Nat.{ℕ, suc, ◌+◌, ◌*◌, ◌/◌, ◌%◌, ◌^◌, ◌≤◌, ◌<◌}
use native.Mathlib.Nat.{div-add-mod', div-eq_of_lt-le, mul-le-mul_right}
use native.Mathlib.Omega.{arith}
use lib.Bits.{bit_or, bit_xor}
use Rattle.tile.specs.declared.Tile.{Tile}
use Rattle.tile.specs.Tile.{tile_of}
use Rattle.tile.proofs.WordBits.{Within, xor_within, or_within}
use Rattle.quadtree.specs.Raster.{Aligned}
use Rattle.quadtree.specs.Valid.{quarter}
use Rattle.quadtree.proofs.Alignment.{area_pos}

pub area_of_lem : (w : ℕ) {k a : ℕ} → k ≡ (tile_of w).size → a ≡ 4 ^ k → a ≡ 4 ^ (tile_of w).size
area_of_lem w ek ea = ea ∙ ap (λ (j : ℕ). 4 ^ j) ek

module _ (w c k a : ℕ) (ec : c ≡ (tile_of w).corner) (ek : k ≡ (tile_of w).size) (ea : a ≡ 4 ^ k) where
  pub remainder_aligned : c % a ≡ 0 → Aligned (tile_of w).size (tile_of w).corner
  remainder_aligned e = record {
    times = (tile_of w).corner / 4 ^ (tile_of w).size;
    is = omega (arith, ap₂ (λ (x y : ℕ). x % y) ec (area_of_lem w ek ea), div-add-mod' (tile_of w).corner (4 ^ (tile_of w).size));
  }

module _ (k a p : ℕ) (m : Aligned (suc k) p) where
  -- each quarter's corner lies in the block
  quotient : (i : ℕ) → i < 4 → (p + i * 4 ^ k) / 4 ^ suc k ≡ m.times
  quotient i h =
      let l : i * 4 ^ k ≤ 3 * 4 ^ k = mul-le-mul_right (4 ^ k) (omega arith) in
      div-eq_of_lt-le (4 ^ suc k) (omega (arith, m.is)) (omega (arith, m.is, area_pos k))

  both : (v w i j : ℕ) → i < 4 → j < 4 → tile_of v ≡ quarter k a p i → tile_of w ≡ quarter k a p j → Within (suc k) (bit_xor v w)
  both v w i j h l e f = xor_within (suc k) v w (record {
    account = ap (λ (t : Tile). t.account) e ∙ sym (ap (λ (t : Tile). t.account) f);
    size = ap (λ (t : Tile). t.size) e ∙ sym (ap (λ (t : Tile). t.size) f);
    block = ap (λ (t : Tile). t.corner / 4 ^ suc k) e ∙ quotient i h ∙ sym (ap (λ (t : Tile). t.corner / 4 ^ suc k) f ∙ quotient j l);
  })

  pub quarters_within : (x y z t : ℕ) → tile_of x ≡ quarter k a p 0 → tile_of y ≡ quarter k a p 1 → tile_of z ≡ quarter k a p 2 → tile_of t ≡ quarter k a p 3 → Within (suc k) (bit_or (bit_or (bit_xor x y) (bit_xor x z)) (bit_xor x t))
  quarters_within x y z t e f g h =
      or_within (suc k) (bit_or (bit_xor x y) (bit_xor x z)) (bit_xor x t)
      (or_within (suc k) (bit_xor x y) (bit_xor x z) (both x y 0 1 (omega arith) (omega arith) e f) (both x z 0 2 (omega arith) (omega arith) e g))
      (both x t 0 3 (omega arith) (omega arith) e h)

pub third_fails : (a b d : Bool) → ((a && b) && d) ≡ false → a ≡ true → b ≡ true → d ≡ false
third_fails a b d h e f = rw (e, f) at h
