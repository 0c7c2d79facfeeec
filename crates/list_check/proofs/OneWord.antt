-- One word of the pass: what its checks show, and what a step may say of it.
--     sound_passed         the tile of a word that breaks none of checks 11 to 15 lies in the bed behind the tile ahead; sound-passes, the converse
--     broken_high .. -overlap   each of these checks, behind those that passed
--     plain_far .. -sound  where the test of all of them at once (`plain`) fails, and where it passes
--     stop_fits            such a tile ends below 2 ^ 32
--     word_check_rest       a word's refusal, or else the rest's
--     next_knows           what is ahead of the next word
--     step_bad             a word that breaks one of checks 11 to 15; step-sound, one that does not
--     step_last            a word that breaks check 16
--     step_good            a word that breaks none
use mathlib.Core.Path.{◌≡◌, refl, ap, ap₂, sym, ◌∙◌}
use mathlib.Core.Bool.{Bool, true, false, ◌&&◌, not}
use mathlib.Core.List.{List, ◌∷◌}
use Prim.Native.Nat.{ℕ, suc, ◌+◌, ◌%◌, ◌^◌, ◌≤◌, ◌<◌}
use native.Mathlib.Nat.{mul-mod_left}
use native.Mathlib.Omega.{arith}
use lib.Dec.{leb, ltb}
use Rattle.basics.proofs.Tests.{Test, test_leb, test_and}
use Rattle.refusal.specs.Refusal.{accepted, high_bits_set, size_above_order, corner_invalid, account_zero, tiles_overlap, siblings_unmerged}
use Rattle.refusal.specs.Checks.{must, or_else}
use Rattle.refusal.specs.declared.Refusal.{Refusal}
use Rattle.refusal.specs.declared.Refusal.TheVariants.{SiblingsUnmerged}
use Rattle.refusal.specs.Refused.{number}
use Rattle.refusal.proofs.RefusedLaws.{number_some}
use Rattle.std.specs.Prelude.{Ok, Err}
use Rattle.refusal.proofs.CheckLaws.{must_on, must_off, must_pass, must_inv, else_on, else_off, else_else, else_must}
use Rattle.tile.specs.declared.Tile.{Tile}
use Rattle.tile.specs.Tile.{stop, tile_of, word_limit, highest_order}
use Rattle.tile.proofs.TileLaws.{tile_of_corner_low}
use Rattle.quadtree.specs.Raster.{Aligned, aligned}
use Rattle.quadtree.specs.Valid.{Sound}
use Rattle.quadtree.proofs.Alignment.{area_pos, area_mono, size_le, aligned_room, test_aligned}
use Rattle.list_flat.proofs.FaultLaws.{area_of_lem, remainder_aligned}
use Rattle.list_check.specs.declared.Ahead.{Ahead}
use Rattle.list_check.specs.ListCheck.{last_of_four, ended, sound_check, word_check}
use Rattle.list_check.specs.Pass.{Knows, Judges}

module _ (n lo w : ℕ) where
  pub sound_passed : sound_check n lo w ≡ accepted → Sound n lo (tile_of w)
  unfolding sound_check
  sound_passed e =
      let a = must_inv (test_leb (suc w) word_limit) (omega arith) e in
      let b = must_inv (test_leb (tile_of w).size n) (omega arith) a.1 in
      let c = must_inv (test_and (test_leb (suc (tile_of w).corner) (4 ^ n)) (test_aligned (tile_of w).size (tile_of w).corner)) (omega arith) b.1 in
      let d = must_inv (test_leb 1 (tile_of w).account) (omega arith) c.1 in
      let f = must_inv (test_leb lo (tile_of w).corner) (omega arith) d.1 in
      record { quadrant = record { fits = b.0; inside = c.0.0; aligned = c.0.1; owned = d.0 }; after = f.0 }

  -- a word whose tile lies in the bed has no high bit set
  word_low : n ≤ highest_order → (tile_of w).corner < 4 ^ n → w < word_limit
  word_low h l = let m : 4 ^ n ≤ 4 ^ highest_order = area_mono h in tile_of_corner_low w (omega arith)

  pub sound_passes : n ≤ highest_order → Sound n lo (tile_of w) → sound_check n lo w ≡ accepted
  unfolding sound_check
  sound_passes h s =
      let q = s.quadrant in
      must_pass high_bits_set (test_leb (suc w) word_limit) (word_low h q.inside)
      (must_pass size_above_order (test_leb (tile_of w).size n) q.fits
      (must_pass corner_invalid (test_and (test_leb (suc (tile_of w).corner) (4 ^ n)) (test_aligned (tile_of w).size (tile_of w).corner)) (q.inside, q.aligned)
      (must_pass account_zero (test_leb 1 (tile_of w).account) q.owned
      (must_pass tiles_overlap (test_leb lo (tile_of w).corner) s.after refl))))

pub stop_fits : {n k c d : ℕ} → n ≤ highest_order → k ≤ n → c < 4 ^ n → d ≡ 4 ^ k → c + d < 2 ^ 32
stop_fits {n} {k} h l b e =
    let p : 4 ^ n ≤ 4 ^ highest_order = area_mono h in
    let q : 4 ^ k ≤ 4 ^ n = area_mono l in
    omega arith

pub word_check_rest : (n : ℕ) (seen : List Tile) (w rest : ℕ) → word_check n seen w rest ≡ or_else (word_check n seen w accepted) rest
unfolding word_check
word_check_rest n seen w rest =
    ap (λ (r : ℕ). or_else (sound_check n (ended seen) w) r) (sym (else_must _ _ _ _ (omega arith) (else_on _ _ refl)))
    ∙ sym (else_else (sound_check n (ended seen) w) _ rest)

-- each check, behind those that passed
module _ (n lo w : ℕ) where
  pub broken_high : word_limit ≤ w → high_bits_set ≡ sound_check n lo w
  unfolding sound_check
  broken_high h = sym (must_off high_bits_set _ (test_leb (suc w) word_limit) (λ l. omega arith))

  module _ (h : w < word_limit) where
    pub broken_size : 4 ^ n < 4 ^ (tile_of w).size → size_above_order ≡ sound_check n lo w
    unfolding sound_check
    broken_size l = sym (must_on high_bits_set _ (test_leb (suc w) word_limit) h ∙ must_off size_above_order _ (test_leb (tile_of w).size n) (λ k. omega (arith, area_mono k)))

    module _ (k : 4 ^ (tile_of w).size ≤ 4 ^ n) where
      sized : sound_check n lo w ≡ must (ltb (tile_of w).corner (4 ^ n) && aligned (tile_of w).size (tile_of w).corner) corner_invalid
          (must (ltb 0 (tile_of w).account) account_zero (must (leb lo (tile_of w).corner) tiles_overlap accepted))
      unfolding sound_check
      sized = must_on high_bits_set _ (test_leb (suc w) word_limit) h ∙ must_on size_above_order _ (test_leb (tile_of w).size n) (size_le (tile_of w).size n k)

      abbrev corner_test : Test (((tile_of w).corner < 4 ^ n) × Aligned (tile_of w).size (tile_of w).corner) (ltb (tile_of w).corner (4 ^ n) && aligned (tile_of w).size (tile_of w).corner)
      corner_test = test_and (test_leb (suc (tile_of w).corner) (4 ^ n)) (test_aligned (tile_of w).size (tile_of w).corner)

      pub broken_corner : (((tile_of w).corner < 4 ^ n) × Aligned (tile_of w).size (tile_of w).corner → ⊥) → corner_invalid ≡ sound_check n lo w
      broken_corner f = sym (sized ∙ must_off corner_invalid _ corner_test f)

      module _ (i : (tile_of w).corner < 4 ^ n) (m : Aligned (tile_of w).size (tile_of w).corner) where
        pub broken_account : (tile_of w).account ≡ 0 → account_zero ≡ sound_check n lo w
        broken_account e = sym (sized ∙ must_on corner_invalid _ corner_test (i, m) ∙ must_off account_zero _ (test_leb 1 (tile_of w).account) (λ p. omega arith))

        pub broken_overlap : 0 < (tile_of w).account → (sound_check n lo w ≡ accepted → ⊥) → tiles_overlap ≡ sound_check n lo w
        broken_overlap p q =
            let e = sized ∙ must_on corner_invalid _ corner_test (i, m) ∙ must_on account_zero _ (test_leb 1 (tile_of w).account) p in
            sym (e ∙ must_off tiles_overlap _ (test_leb lo (tile_of w).corner) (λ l. q (e ∙ must_on tiles_overlap _ (test_leb lo (tile_of w).corner) l)))

-- an aligned tile leaves no remainder
module _ (w c k a : ℕ) (ec : c ≡ (tile_of w).corner) (ek : k ≡ (tile_of w).size) (ea : a ≡ 4 ^ k) where
  pub aligned_remainder : Aligned (tile_of w).size (tile_of w).corner → c % a ≡ 0
  aligned_remainder m = ap₂ (λ (x y : ℕ). x % y) ec (area_of_lem w ek ea) ∙ ap (λ (x : ℕ). x % 4 ^ (tile_of w).size) m.is ∙ mul-mod_left m.times (4 ^ (tile_of w).size)

-- `plain`, by the corner c, the size k, the area a and the bed's area b of the code
module _ (n lo w c k a b : ℕ) (ec : c ≡ (tile_of w).corner) (ek : k ≡ (tile_of w).size) (ea : a ≡ 4 ^ k) (eb : b ≡ 4 ^ n) where
  pub plain_far : b < c + a → sound_check n lo w ≡ accepted → ⊥
  plain_far h e =
      let q = (sound_passed n lo w e).quadrant in
      omega (arith, aligned_room q.fits q.aligned q.inside, area_of_lem w ek ea)

  pub plain_odd : (c % a ≡ 0 → ⊥) → sound_check n lo w ≡ accepted → ⊥
  plain_odd h e = h (aligned_remainder w c k a ec ek ea (sound_passed n lo w e).quadrant.aligned)

  pub plain_sound : n ≤ highest_order → c + a ≤ b → c % a ≡ 0 → 0 < (tile_of w).account → lo ≤ c → sound_check n lo w ≡ accepted
  plain_sound o h e p l =
      let s = area_of_lem w ek ea in
      let m = remainder_aligned w c k a ec ek ea e in
      sound_passes n lo w o (record {
        quadrant = record { fits = size_le (tile_of w).size n (omega arith); inside = omega (arith, area_pos (tile_of w).size); aligned = m; owned = p };
        after = omega arith;
      })

-- what is ahead of the word behind w
next_knows : {n s w : ℕ} {seen : List Tile} {a : Ahead} → Knows a seen → Sound n (ended seen) (tile_of w) → s ≡ stop (tile_of w) → Knows (record { stop = s; first = a.second; second = a.third; third = w }) (tile_of w ∷ seen)
unfolding ended
next_knows g p e = record { stop = e; first = g.second; second = g.third; third = refl; rises = (p.after, g.rises) }

module _ (n : ℕ) (seen : List Tile) (w : ℕ) (a : Ahead) (g : Knows a seen) (x : ℕ) (s : x ≡ sound_check n a.stop w) where
  sound_is : x ≡ sound_check n (ended seen) w
  sound_is = s ∙ ap (λ (l : ℕ). sound_check n l w) g.stop

  pub step_bad : (r : Refusal) → number r ≡ x → Judges n seen w (Err r)
  unfolding word_check
  step_bad r e =
      let h = number_some r in
      record { refusal = e ∙ sound_is ∙ sym (else_off _ _ (λ y. omega (arith, h, e, sound_is, y))); ahead = record {} }

  module _ (z : x ≡ accepted) where
    pub step_sound : Sound n (ended seen) (tile_of w)
    step_sound = sound_passed n (ended seen) w (sym sound_is ∙ z)

    left : word_check n seen w accepted ≡ must (not (last_of_four seen (tile_of w))) siblings_unmerged accepted
    unfolding word_check
    left = else_on _ _ (sym sound_is ∙ z)

    pub step_last : (b : Bool) → b ≡ last_of_four seen (tile_of w) → b ≡ true → Judges n seen w (Err SiblingsUnmerged)
    unfolding must
    step_last b e f = record { refusal = sym (left ∙ rw (← e, f)); ahead = record {} }

    pub step_good : (b : Bool) → b ≡ last_of_four seen (tile_of w) → b ≡ false → (d : ℕ) → d ≡ stop (tile_of w) → Judges n seen w (Ok (record { stop = d; first = a.second; second = a.third; third = w }))
    unfolding must
    step_good b e f d ed = record { refusal = sym (left ∙ rw (← e, f)); ahead = next_knows g step_sound ed }
