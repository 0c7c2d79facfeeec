-- The executable quadtree: `blocks f k c` tiles the quadrant, and each of its tiles is as large as it can be.
--     test_uniform            the test of the definitions
--     blocks_ind              a fact of every quadrant's blocks, from uniform quadrants and from those made of four
--     Top n f t               no larger uniform quadrant of the bed of order n has the tile t: the last part of `Largest`
--     blocks_tiling           the blocks of an aligned quadrant tile it
--     blocks_top              each is `Top` within the quadrant
--     blocks_uniform, -mixed  the two cases of `blocks`
--     blank_quadtree          nobody's bed has no tile
use mathlib.Core.Path.{◌≡◌, refl, ap, sym, ◌∙◌}
use mathlib.Core.List.Memᴰ
use mathlib.Core.List.{List, []}
use mathlib.Core.Logic.{inl, inr}
use Prim.Native.Nat.{ℕ, zero, suc, ◌+◌, ◌*◌, ◌^◌, ◌≤◌, ◌<◌}
use native.Mathlib.Omega.{arith}
use Rattle.basics.proofs.Tests.{Test, holds, test_eqb, test_and, test_map, by_test, choose_yes, choose_no}
use Rattle.tile.specs.declared.Tile.{Tile}
use Rattle.tile.specs.Tile.{tile}
use Rattle.quadtree.specs.Raster.{Aligned, Uniform, uniform, ◌∈◌}
use Rattle.quadtree.specs.Quadtree.{single, four, blocks, quadtree}
use Rattle.quadtree.proofs.Alignment.{cmp, below, same, above, area_pos, aligned_down, aligned_next, aligned_quarter, aligned_nest}
use Rattle.quadtree.proofs.Tiling.{Tiling, none, next, next_at, tiling_append, Placed, placed}

pub test_uniform : (f : ℕ → ℕ) (a c n : ℕ) → Test (Uniform f a c (c + n)) (uniform f a c n)
unfolding uniform
test_uniform f a c zero = holds (λ z l h. omega arith)
test_uniform f a c (suc n) = test_map
    (λ p z l h. elim (cmp z (c + n)) [ below b ↦ p.1 z l b | same e ↦ ap f e ∙ p.0 | above b ↦ omega arith ])
    (λ p. (p (c + n) (omega arith) (omega arith), λ z l h. p z l (omega arith)))
    (test_and (test_eqb (f (c + n)) a) (test_uniform f a c n))

pub blocks_uniform : (f : ℕ → ℕ) (a k c : ℕ) → Uniform f a c (c + 4 ^ k) → blocks f k c ≡ single c k a
unfolding blocks
blocks_uniform f a zero c u = ap (λ (x : ℕ). single c zero x) (u c (omega arith) (omega arith))
blocks_uniform f a (suc k) c u =
    let e : f c ≡ a = u c (omega arith) (omega (arith, area_pos (suc k))) in
    choose_yes (single c (suc k) (f c)) (four (λ x. blocks f k x) k c) (test_uniform f (f c) c (4 ^ suc k)) (λ z l h. u z l h ∙ sym e) ∙ ap (λ (x : ℕ). single c (suc k) x) e

pub blocks_mixed : (f : ℕ → ℕ) (k c : ℕ) → (Uniform f (f c) c (c + 4 ^ suc k) → ⊥) → blocks f (suc k) c ≡ four (λ x. blocks f k x) k c
unfolding blocks
blocks_mixed f k c u = choose_no (single c (suc k) (f c)) (four (λ x. blocks f k x) k c) (test_uniform f (f c) c (4 ^ suc k)) u

pub blank_quadtree : (n : ℕ) → quadtree n (λ z. 0) ≡ []
unfolding quadtree single
blank_quadtree n = blocks_uniform (λ z. 0) 0 n 0 (λ z l h. refl)

module _ (f : ℕ → ℕ) (P : ℕ → ℕ → List Tile → Type 0)
    (whole : (k c : ℕ) → Aligned k c → Uniform f (f c) c (c + 4 ^ k) → P k c (single c k (f c)))
    (parts : (k c : ℕ) → Aligned (suc k) c → (Uniform f (f c) c (c + 4 ^ suc k) → ⊥) → (g : ℕ → List Tile) → ((x : ℕ) → Aligned k x → c ≤ x → x + 4 ^ k ≤ c + 4 ^ suc k → P k x (g x)) → P (suc k) c (four g k c))
  where
    pub blocks_ind : (k c : ℕ) → Aligned k c → P k c (blocks f k c)
    unfolding blocks
    blocks_ind zero c m = whole zero c m (λ z l h. ap f (omega arith))
    blocks_ind (suc k) c m = by_test (P (suc k) c) (test_uniform f (f c) c (4 ^ suc k)) (λ u. whole (suc k) c m u) (λ u. parts k c m u (λ x. blocks f k x) (λ x n l h. blocks_ind k x n))

pub record Top (n : ℕ) (f : ℕ → ℕ) (t : Tile) : Type 0 where
  pub fits : t.size ≤ n
  pub top : (k c : ℕ) → t.size < k → k ≤ n → Aligned k c → c ≤ t.corner → t.corner < c + 4 ^ k → Uniform f t.account c (c + 4 ^ k) → ⊥

-- what is shown of every quadrant's blocks
record Good (f : ℕ → ℕ) (k c : ℕ) (ts : List Tile) : Type 0 where
  shows : (hi : ℕ) → hi ≡ c + 4 ^ k → Tiling f hi c ts
  tops : (t : Tile) → t ∈ ts → Top k f t

single_good : (f : ℕ → ℕ) (k c a : ℕ) → Aligned k c → Uniform f a c (c + 4 ^ k) → Good f k c (single c k a)
unfolding single
single_good f k c zero m u = record { shows = λ hi e. none {lo = c} (omega arith) (λ z l h. u z l (omega arith)); tops = λ t i. absurd (Memᴰ.not-nil i) }
single_good f k c (suc a) m u = record {
  shows = λ hi e. next {t = tile c k (suc a)} (next_at (record { aligned = m; owned = omega arith; uniform = u })) (none {lo = c + 4 ^ k} (omega arith) (λ z l h. omega arith));
  tops = λ t i. let e = Memᴰ.eq_of_singleton i in
      record { fits = omega (arith, ap (λ (x : Tile). x.size) e); top = λ j d lt le n l h v. omega (arith, ap (λ (x : Tile). x.size) e) };
}

-- the quadrant of `four` that a tile comes from
record Part (g : ℕ → List Tile) (k c : ℕ) (t : Tile) : Type 0 where
  at : ℕ
  from : c ≤ at
  upto : at + 4 ^ k ≤ c + 4 ^ suc k
  aligned : Aligned k at
  member : t ∈ g at

module _ (g : ℕ → List Tile) (k c : ℕ) (m : Aligned (suc k) c) where
  m0 : Aligned k c
  m0 = aligned_down (omega arith) m

  four_part : {t : Tile} → t ∈ four g k c → Part g k c t
  unfolding four
  four_part {t} i = elim (Memᴰ.append_cases (g c) i) [
    | inl a ↦ record { at = c; from = omega arith; upto = omega arith; aligned = m0; member = a }
    | inr r ↦ elim (Memᴰ.append_cases (g (c + 4 ^ k)) r) [
      | inl a ↦ record { at = c + 4 ^ k; from = omega arith; upto = omega arith; aligned = aligned_next m0; member = a }
      | inr s ↦ elim (Memᴰ.append_cases (g (c + 2 * 4 ^ k)) s) [
        | inl a ↦ record { at = c + 2 * 4 ^ k; from = omega arith; upto = omega arith; aligned = aligned_quarter 2 m0; member = a }
        | inr a ↦ record { at = c + 3 * 4 ^ k; from = omega arith; upto = omega arith; aligned = aligned_quarter 3 m0; member = a }
      ]
    ]
  ]

  module _ (f : ℕ → ℕ) (mixed : Uniform f (f c) c (c + 4 ^ suc k) → ⊥) (good : (x : ℕ) → Aligned k x → c ≤ x → x + 4 ^ k ≤ c + 4 ^ suc k → Good f k x (g x)) where
    four_shows : (hi : ℕ) → hi ≡ c + 4 ^ suc k → Tiling f hi c (four g k c)
    unfolding four
    four_shows hi e =
        tiling_append ((good c m0 (omega arith) (omega arith)).shows (c + 4 ^ k) (omega arith))
        (tiling_append ((good (c + 4 ^ k) (aligned_next m0) (omega arith) (omega arith)).shows (c + 2 * 4 ^ k) (omega arith))
        (tiling_append ((good (c + 2 * 4 ^ k) (aligned_quarter 2 m0) (omega arith) (omega arith)).shows (c + 3 * 4 ^ k) (omega arith))
        ((good (c + 3 * 4 ^ k) (aligned_quarter 3 m0) (omega arith) (omega arith)).shows hi (omega arith))))

    -- a uniform block of size k + 1 that has the tile is the quadrant itself, which is not uniform
    part_top : {t : Tile} → Part g k c t → Top (suc k) f t
    part_top {t} p = record {
      fits = omega (arith, q.fits);
      top = λ j d lt le n l h v. elim (cmp j (suc k)) [
        | below b ↦ q.top j d lt (omega arith) n l h v
        | same e ↦
            let s : 4 ^ j ≡ 4 ^ suc k = ap (λ (x : ℕ). 4 ^ x) e in
            let o = aligned_nest {j = suc k} {k = j} {x = c} {c = d} (omega arith) m n (omega (arith, w.from, w.upto, area_pos t.size)) (omega (arith, w.from)) in
            mixed (λ z zl zh. v z (omega arith) (omega arith) ∙ sym (v c (omega arith) (omega (arith, area_pos (suc k)))))
        | above b ↦ omega arith
      ];
    }
      where
        q : Top k f t
        q = (good p.at p.aligned p.from p.upto).tops t p.member

        w : Placed f (p.at + 4 ^ k) p.at t
        w = placed ((good p.at p.aligned p.from p.upto).shows (p.at + 4 ^ k) refl) p.member

    four_good : Good f (suc k) c (four g k c)
    four_good = record { shows = four_shows; tops = λ t i. part_top (four_part i) }

blocks_good : (f : ℕ → ℕ) (k c : ℕ) → Aligned k c → Good f k c (blocks f k c)
blocks_good f = blocks_ind f (Good f) (λ k c m u. single_good f k c (f c) m u) (λ k c m u g h. four_good g k c m f u h)

pub blocks_tiling : (f : ℕ → ℕ) (k c : ℕ) → Aligned k c → (hi : ℕ) → hi ≡ c + 4 ^ k → Tiling f hi c (blocks f k c)
blocks_tiling f k c m = (blocks_good f k c m).shows

pub blocks_top : (f : ℕ → ℕ) (k c : ℕ) → Aligned k c → (t : Tile) → t ∈ blocks f k c → Top k f t
blocks_top f k c m = (blocks_good f k c m).tops
