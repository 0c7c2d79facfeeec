-- The four pixels of a quad.
--     level_some                  the last of the four pixels ends a larger block
--     quad_skip, quad_put         four accounts that are the same
--     alone_store                 a pixel as a tile by itself, as stored
--     quad_mixed                  four accounts that are not the same: each is a tile by itself
use mathlib.Core.Path.{◌≡◌, refl, ap, sym, ◌∙◌}
use mathlib.Core.List.{List, [], ◌∷◌, ◌++◌, append_assoc, map-append}
use Prim.Native.Nat.{ℕ, zero, suc, ◌+◌, ◌-◌, ◌^◌, ◌≤◌, ◌<◌}
use native.Mathlib.Decide.{dec_lt}
use native.Mathlib.Omega.{arith}
use native.Mathlib.Numerals.{add-one}
use lib.ListN.{length, take, drop, get_or, set, length-drop}
use lib.Seq.{take-suc-set, drop-set-lt, get_or-set_same}
use Rattle.tile.specs.Tile.{tile, tile_of, word_of, highest_account, highest_order}
use Rattle.tile.specs.Slots.{tiles}
use Rattle.tile.proofs.TileLaws.{tile_word}
use Rattle.quadtree.specs.Raster.{Aligned, Uniform, paint}
use Rattle.quadtree.specs.Quadtree.{quadtree}
use Rattle.quadtree.proofs.ValidLaws.{quadtree_cong}
use Rattle.quadtree.proofs.Alignment.{aligned_unit, aligned_next}
use Rattle.quadtree.specs.Tiling.{Levels}
use Rattle.scan_gap.specs.Gap.{Fits, Receives}
use Rattle.scan_gap.proofs.Parts.{held_tiles}
use Rattle.scan_gap.proofs.Pixel.{alone_quadtree, alone_length}
use Rattle.scan_block.specs.Blocks.{mixed, Site, Built, Advances, Alone, Quad}
use Rattle.scan_block.proofs.Advance.{mixed_in, mixed_painted, head_drop, receives, high_on, advance_skip, advance_is}

-- what the store does
module _ (s : List ℕ) (i b z a : ℕ) (fit : Fits s i b) where
  pub alone_store : (w : ℕ) → 0 < a → (i ≡ b → ⊥) → z < 4 ^ highest_order → a ≤ highest_account → w ≡ word_of (tile z 0 a) → Alone s (set s i w) i b z a (i + 1)
  alone_store w p e l low q =
      let inside : i < length s = omega (arith, fit) in
      let t : tile_of w ≡ tile z 0 a = ap tile_of q ∙ tile_word (tile z 0 a) (omega arith) low in
      let back : i + 1 - 1 ≡ i = omega arith in
      record {
        fits = omega (arith, fit);
        back = drop-set-lt b s i w (omega (arith, fit));
        none = λ x. absurd (omega arith);
        put = λ _ _. (refl, rw (add-one i, take-suc-set s i w inside, map-append tile_of (take i s) (w ∷ []), t), λ _. rw (back, get_or-set_same s i w 0 inside, t) (omega arith));
      }

-- a pixel put by itself, whose three siblings ahead of it are not all of its account
module _ (s t : List ℕ) (i b z a r : ℕ) (fit : Fits s i b) (al : Alone s t i b z a r) where
  dot_uniform : (g : ℕ → ℕ) → g z ≡ a → Uniform g a z (z + 1)
  dot_uniform g e y l h = let q : y ≡ z = omega arith in ap g q ∙ e

  module _ (n : ℕ) (f g : ℕ → ℕ) (lo hi : ℕ) (site : Site (length s) n f g lo hi) (l : lo ≤ z) (h : z + 1 ≤ hi) (is : g z ≡ a)
      (other : (p : ℕ) → Aligned 1 p → z + 1 ≡ p + 4 → Uniform (mixed f g lo z) a p z → ⊥) (built : Built n f g lo z s i b) where
    none : a ≡ 0 → Built n f g lo (z + 1) t r b
    none e = rw ((al.none e).0, (al.none e).1) ((advance_skip 0 z (z + 1) (omega arith) (aligned_unit z) s i b fit).on n f g lo hi site l h (λ y u v. dot_uniform g is y u v ∙ e) built)

    module _ (pos : 0 < a) where
      abbrev within : i ≤ length s
      within = omega (arith, fit)

      received : Receives n (mixed f g lo z) z 0 (tiles (take i s) ++ tiles (drop b s))
      received = rw (held_tiles s i b) at (receives 0 z (z + 1) (omega arith) (aligned_unit z) site l h built)

      painted : quadtree n (paint (mixed f g lo z) z (z + 4 ^ 0) a) ≡ quadtree n (mixed f g lo (z + 1))
      painted = quadtree_cong n (paint (mixed f g lo z) z (z + 1) a) (mixed f g lo (z + 1)) (λ c q. mixed_painted f g lo z (z + 1) a l (omega arith) (dot_uniform g is) c)

      listed : tiles (take i s) ++ tile z 0 a ∷ tiles (drop b s) ≡ quadtree n (mixed f g lo (z + 1))
      listed = alone_quadtree s i b within built.low built.high received a pos (λ p m e u. other p m (omega arith) u) ∙ painted

      -- the list fits, so there is a slot
      slot : i < b
      slot = omega (arith, fit, site.room (z + 1) (omega arith) h, ap length painted, alone_length s i b within built.low built.high received a pos (λ p m e u. other p m (omega arith) u) fit.1)

      put : Built n f g lo (z + 1) t r b
      put =
          let p = al.put pos slot in
          rw p.0 (record {
            low = p.2;
            high = λ v.
                let q : get_or t b 0 ≡ get_or s b 0 = sym (head_drop t b) ∙ rw al.back (head_drop s b) in
                rw q (high_on 0 z (z + 1) (omega arith) (aligned_unit z) site l h built within (longer v));
            list = held_tiles t (i + 1) b ∙ rw (p.1, al.back, append_assoc (tiles (take i s)) (tile z 0 a ∷ []) (tiles (drop b s))) listed;
          })
        where
          longer : b < length t → b < length s
          longer v = elim (dec_lt b (length s)) [ yes u ↦ u | no u ↦ absurd (omega (arith, v, ap length al.back, length-drop b t, length-drop b s)) ]

    pub alone_built : Built n f g lo (z + 1) t r b
    alone_built = elim (dec_lt 0 a) [ yes p ↦ put p | no p ↦ none (omega arith) ]

pub level_some : (z l : ℕ) → Aligned 1 z → Levels (z + 4) l → 1 ≤ l
level_some z l m w = elim (dec_lt 0 l) [ yes h ↦ omega arith | no h ↦ (let e : l ≡ 0 = omega arith in absurd (rw e at w.over (aligned_next m))) ]

module _ (s : List ℕ) (i e z a b c d : ℕ) (m : Aligned 1 z) (fit : Fits s i e) (ab : a ≡ b) (bc : b ≡ c) (cd : c ≡ d) where
  four_uniform : (g : ℕ → ℕ) → Quad z a b c d g → Uniform g a z (z + 4)
  four_uniform g q y l h = go (y - z) (omega arith)
    where
      go : (j : ℕ) → y ≡ z + j → g y ≡ a
      go zero p = (let r : y ≡ z = omega arith in ap g r ∙ q.0)
      go (suc zero) p = ap g p ∙ q.1 ∙ sym ab
      go (suc (suc zero)) p = ap g p ∙ q.2 ∙ sym (ab ∙ bc)
      go (suc (suc (suc zero))) p = ap g p ∙ q.3 ∙ sym (ab ∙ bc ∙ cd)
      go (suc (suc (suc (suc j)))) p = absurd (omega arith)

  pub quad_skip : a ≡ 0 → Advances s s i e z (z + 4) (Quad z a b c d) i
  quad_skip n = advance_is s s i e z (z + 4) (λ g q y l h. four_uniform g q y l h ∙ n) (advance_skip 1 z (z + 4) (omega arith) m s i e fit)

  pub quad_put : (t : List ℕ) (r : ℕ) → Advances s t i e z (z + 4) (λ g. Uniform g a z (z + 4)) r → Advances s t i e z (z + 4) (Quad z a b c d) r
  quad_put t r v = advance_is s t i e z (z + 4) four_uniform v

-- four pixels in turn that are not all of one account
module _ (s t u v w : List ℕ) (i e z a b c d j k l q : ℕ) (m : Aligned 1 z) (fit : Fits s i e) (st : length t ≡ length s) (tu : length u ≡ length t) (uv : length v ≡ length u)
    (p1 : Alone s t i e z a j) (p2 : Alone t u j e (z + 1) b k) (p3 : Alone u v k e (z + 2) c l) (p4 : Alone v w l e (z + 3) d q) (unlike : ((a ≡ b) × ((b ≡ c) × (c ≡ d))) → ⊥) where
  inner : (x : ℕ) → x < 3 → (p : ℕ) → Aligned 1 p → z + x + 1 ≡ p + 4 → ⊥
  inner x h p al y = omega (arith, m.is, al.is)

  fit_t : Fits t j e
  fit_t = (p1.fits, omega (arith, fit))

  fit_u : Fits u k e
  fit_u = (p2.fits, omega (arith, fit))

  fit_v : Fits v l e
  fit_v = (p3.fits, omega (arith, fit))

  module _ (n : ℕ) (f g : ℕ → ℕ) (lo hi : ℕ) (site : Site (length s) n f g lo hi) (low : lo ≤ z) (high : z + 4 ≤ hi) (is : Quad z a b c d g) where
    -- the fourth pixel's siblings are the first three
    last : (p : ℕ) → Aligned 1 p → z + 3 + 1 ≡ p + 4 → Uniform (mixed f g lo (z + 3)) d p (z + 3) → ⊥
    last p al y same =
        let ez : p ≡ z = omega arith in
        let first : a ≡ d = sym is.0 ∙ sym (mixed_in f g lo (z + 3) z low (omega arith)) ∙ same z (omega arith) (omega arith) in
        let second : b ≡ d = sym is.1 ∙ sym (mixed_in f g lo (z + 3) (z + 1) (omega arith) (omega arith)) ∙ same (z + 1) (omega arith) (omega arith) in
        let third : c ≡ d = sym is.2 ∙ sym (mixed_in f g lo (z + 3) (z + 2) (omega arith) (omega arith)) ∙ same (z + 2) (omega arith) (omega arith) in
        unlike (first ∙ sym second, (second ∙ sym third, third))

    one : Built n f g lo z s i e → Built n f g lo (z + 1) t j e
    one x = alone_built s t i e z a j fit p1 n f g lo hi site low (omega arith) is.0 (λ p al y same. (let q : z + 0 + 1 ≡ p + 4 = omega arith in inner 0 (omega arith) p al q)) x

    two : Built n f g lo (z + 1) t j e → Built n f g lo (z + 2) u k e
    two x =
        let q : z + 1 + 1 ≡ z + 2 = omega arith in
        rw q at (alone_built t u j e (z + 1) b k fit_t p2 n f g lo hi (rw (← st) at site) (omega arith) (omega arith) is.1 (λ p al y same. inner 1 (omega arith) p al y) x)

    three : Built n f g lo (z + 2) u k e → Built n f g lo (z + 3) v l e
    three x =
        let q : z + 2 + 1 ≡ z + 3 = omega arith in
        rw q at (alone_built u v k e (z + 2) c l fit_u p3 n f g lo hi (rw (← st, ← tu) at site) (omega arith) (omega arith) is.2 (λ p al y same. inner 2 (omega arith) p al y) x)

    four : Built n f g lo (z + 3) v l e → Built n f g lo (z + 4) w q e
    four x =
        let y : z + 3 + 1 ≡ z + 4 = omega arith in
        rw y at (alone_built v w l e (z + 3) d q fit_v p4 n f g lo hi (rw (← st, ← tu, ← uv) at site) (omega arith) (omega arith) is.3 last x)

  pub quad_mixed : Advances s w i e z (z + 4) (Quad z a b c d) q
  quad_mixed = record {
    fits = p4.fits;
    on = λ n f g lo hi site low high is x.
        four n f g lo hi site low high is (three n f g lo hi site low high is (two n f g lo hi site low high is (one n f g lo hi site low high is x)));
  }
