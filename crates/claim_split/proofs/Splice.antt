-- A raster changed in one block: its linear quadtree changes in that block only.
--     Alone g n s d        no larger uniform block of somebody's holds the block of size s at d
--     Elsewhere f g s d    f and g differ in that block only
--     quadtree_splice      then the tiles outside of the block stay, and the block's own come between them
use mathlib.Core.Path.{◌≡◌, refl, sym, ◌∙◌}
use mathlib.Core.List.Memᴰ
use mathlib.Core.List.{List, ◌++◌}
use mathlib.Core.Logic.{◌⊎◌, inl, inr}
use Prim.Native.Nat.{ℕ, ◌+◌, ◌^◌, ◌≤◌, ◌<◌}
use native.Mathlib.Omega.{arith}
use native.Mathlib.Decide.{dec_lt, dec_le}
use Rattle.tile.specs.declared.Tile.{Tile}
use Rattle.tile.specs.Tile.{stop}
use Rattle.quadtree.specs.Raster.{Aligned, Uniform}
use Rattle.quadtree.specs.Quadtree.{blocks, quadtree}
use Rattle.quadtree.proofs.Alignment.{area_pos, aligned_nest}
use Rattle.quadtree.proofs.Tiling.{Tiling, tiling_append, tiling_cong, Placed, placed}
use Rattle.quadtree.proofs.Blocks.{Top, blocks_tiling, blocks_top}
use Rattle.quadtree.proofs.Unique.{AllTop}
use Rattle.quadtree.proofs.ValidLaws.{tiling_quadtree, quadtree_top, top_no_four}

abbrev pub Alone : (ℕ → ℕ) → ℕ → ℕ → ℕ → Type 0
Alone g n s d = (k c v : ℕ) → s < k → k ≤ n → Aligned k c → c ≤ d → d + 4 ^ s ≤ c + 4 ^ k → 0 < v → Uniform g v c (c + 4 ^ k) → ⊥

abbrev pub Elsewhere : (ℕ → ℕ) → (ℕ → ℕ) → ℕ → ℕ → Type 0
Elsewhere f g s d = (z : ℕ) → ((d ≤ z) × (z < d + 4 ^ s) → ⊥) → g z ≡ f z

module _ (n : ℕ) (f g : ℕ → ℕ) (s d : ℕ) (md : Aligned s d) (same : Elsewhere f g s d) (alone : Alone g n s d) where
  outer : (u : Tile) → (stop u ≤ d) ⊎ (d + 4 ^ s ≤ u.corner) → 0 < u.account → Top n f u → Top n g u
  outer u side own big = record { fits = big.fits; top = λ k c lt le m l h w. go k c lt le m l h w (dec_lt d (c + 4 ^ k)) (dec_lt c (d + 4 ^ s)) (dec_le k s) }
    where
      go : (k c : ℕ) → u.size < k → k ≤ n → Aligned k c → c ≤ u.corner → u.corner < c + 4 ^ k → Uniform g u.account c (c + 4 ^ k) → Dec (d < c + 4 ^ k) → Dec (c < d + 4 ^ s) → Dec (k ≤ s) → ⊥
      go k c lt le m l h w (yes p) (yes q) (yes e) =
          let i = aligned_nest {j = k} {k = s} {x = c} {c = d} e m md p q in
          elim side [ inl b ↦ omega (arith, area_pos u.size) | inr b ↦ omega arith ]
      go k c lt le m l h w (yes p) (yes q) (no e) =
          let i = aligned_nest {j = s} {k = k} {x = d} {c = c} (omega arith) md m q p in
          alone k c u.account (omega arith) le m i.0 i.1 own w
      go k c lt le m l h w (yes p) (no q) e = big.top k c lt le m l h (λ z zl zh. sym (same z (λ i. omega (arith, i.0, i.1))) ∙ w z zl zh)
      go k c lt le m l h w (no p) q e = big.top k c lt le m l h (λ z zl zh. sym (same z (λ i. omega (arith, i.0, i.1))) ∙ w z zl zh)

  inner : (u : Tile) → Placed g (d + 4 ^ s) d u → Top s g u → s ≤ n → Top n g u
  inner u p big h = record { fits = omega (arith, big.fits); top = λ k c lt le m l r w. go k c lt le m l r w (dec_le k s) }
    where
      go : (k c : ℕ) → u.size < k → k ≤ n → Aligned k c → c ≤ u.corner → u.corner < c + 4 ^ k → Uniform g u.account c (c + 4 ^ k) → Dec (k ≤ s) → ⊥
      go k c lt le m l r w (yes e) = big.top k c lt e m l r w
      go k c lt le m l r w (no e) =
          let i = aligned_nest {j = s} {k = k} {x = d} {c = c} (omega arith) md m (omega (arith, p.upto, area_pos u.size)) (omega (arith, p.from)) in
          alone k c u.account (omega arith) le m i.0 i.1 p.on.owned w

  pub quadtree_splice : (a m b : List Tile) → s ≤ n → a ++ (m ++ b) ≡ quadtree n f → Tiling f d 0 a → Tiling f (4 ^ n) (d + 4 ^ s) b → a ++ (blocks g s d ++ b) ≡ quadtree n g
  quadtree_splice a m b h e ta tb = tiling_quadtree n g whole (top_no_four whole all)
    where
      q : Tiling g (d + 4 ^ s) d (blocks g s d)
      q = blocks_tiling g s d md (d + 4 ^ s) refl

      big : AllTop n f (a ++ (m ++ b))
      big = rw e (quadtree_top n f)

      whole : Tiling g (4 ^ n) 0 (a ++ (blocks g s d ++ b))
      whole = tiling_append (tiling_cong ta (λ z l k. same z (λ i. omega (arith, i.0)))) (tiling_append q (tiling_cong tb (λ z l k. same z (λ i. omega (arith, i.1)))))

      all : AllTop n g (a ++ (blocks g s d ++ b))
      all u i = elim (Memᴰ.append_cases a i) [
        | inl j ↦ outer u (inl (placed ta j).upto) (placed ta j).on.owned (big u (Memᴰ.append_left (m ++ b) j))
        | inr j ↦ elim (Memᴰ.append_cases (blocks g s d) j) [
          | inl l ↦ inner u (placed q l) (blocks_top g s d md u l) h
          | inr l ↦ outer u (inr (placed tb l).from) (placed tb l).on.owned (big u (Memᴰ.append_right a (Memᴰ.append_right m l)))
        ]
      ]
