-- Blocks of one account put one behind the other.
--     mixed_in, mixed_out   a mixed raster
--     mixed_painted         a mixed raster, a block further on
--     receives, high_on     a block that is put next
--     advance_put           a tile is pushed
--     advance_skip          nobody's block changes nothing
--     advance_then          one behind the other
--     advance_is            what g satisfies, said otherwise
use mathlib.Core.Path.{◌≡◌, ap, sym, ◌∙◌}
use mathlib.Core.Bool.{false, ◌&&◌}
use mathlib.Core.List.{List}
use Prim.Native.Nat.{ℕ, suc, ◌+◌, ◌-◌, ◌^◌, ◌≤◌, ◌<◌}
use native.Mathlib.Nat.{add-zero}
use native.Mathlib.Decide.{dec_lt}
use native.Mathlib.Omega.{arith}
use lib.Dec.{leb, ltb}
use lib.ListN.{length, drop, get_or}
use lib.Seq.{get_or-drop}
use borrow.Author.Tests.{le-ltb}
use Rattle.basics.proofs.Tests.{Test, test_leb, test_and}
use Rattle.basics.proofs.ChoiceLaws.{if_yes, if_no}
use Rattle.tile.specs.Tile.{tile}
use Rattle.quadtree.specs.Raster.{Aligned, Uniform, paint}
use Rattle.quadtree.specs.Quadtree.{quadtree}
use Rattle.quadtree.proofs.Alignment.{area_pos, aligned_unit}
use Rattle.quadtree.proofs.Shown.{paint_in, paint_out}
use Rattle.quadtree.proofs.ValidLaws.{quadtree_cong}
use Rattle.tile.specs.Slots.{tiles}
use Rattle.scan_gap.specs.Gap.{held, Fits, High, Receives, Pushed, Outcome}
use Rattle.scan_gap.proofs.Parts.{held_tiles}
use Rattle.scan_gap.proofs.Pixel.{behind_high, tile_pushed}
use Rattle.scan_block.specs.Blocks.{mixed, Site, Built, Advances}

test_mixed : (lo x z : ℕ) → Test ((lo ≤ z) × (z < x)) (leb lo z && ltb z x)
test_mixed lo x z = test_and (test_leb lo z) (test_leb (suc z) x)

pub mixed_in : (f g : ℕ → ℕ) (lo x z : ℕ) → lo ≤ z → z < x → mixed f g lo x z ≡ g z
unfolding mixed
mixed_in f g lo x z l h = if_yes (g z) (f z) (test_mixed lo x z) (l, h)

pub mixed_out : (f g : ℕ → ℕ) (lo x z : ℕ) → ((lo ≤ z) × (z < x) → ⊥) → mixed f g lo x z ≡ f z
unfolding mixed
mixed_out f g lo x z h = if_no (g z) (f z) (test_mixed lo x z) h

-- an account on a block behind what is mixed
pub mixed_painted : (f g : ℕ → ℕ) (lo x y a : ℕ) → lo ≤ x → x ≤ y → Uniform g a x y → (z : ℕ) → paint (mixed f g lo x) x y a z ≡ mixed f g lo y z
mixed_painted f g lo x y a l w u z = elim (dec_lt z x) [
  | yes h ↦ paint_out (mixed f g lo x) x y a z (λ c. omega (arith, c.0)) ∙ elim (dec_lt z lo) [
    | yes i ↦ mixed_out f g lo x z (λ c. omega (arith, c.0)) ∙ sym (mixed_out f g lo y z (λ c. omega (arith, c.0)))
    | no i ↦ mixed_in f g lo x z (omega arith) h ∙ sym (mixed_in f g lo y z (omega arith) (omega arith))
  ]
  | no h ↦ elim (dec_lt z y) [
    | yes i ↦ paint_in (mixed f g lo x) x y a z (omega arith) i ∙ sym (u z (omega arith) i) ∙ sym (mixed_in f g lo y z (omega arith) i)
    | no i ↦ paint_out (mixed f g lo x) x y a z (λ c. i c.1) ∙ mixed_out f g lo x z (λ c. h c.1) ∙ sym (mixed_out f g lo y z (λ c. i c.1))
  ]
]

pub head_drop : (s : List ℕ) (j : ℕ) → get_or (drop j s) 0 0 ≡ get_or s j 0
head_drop s j = get_or-drop j s 0 0 ∙ rw (add-zero j)

-- a block of size k that is put next, from x up to y
module _ (k x y : ℕ) (ey : y ≡ x + 4 ^ k) (al : Aligned k x) where
  module _ {m n : ℕ} {f g : ℕ → ℕ} {lo hi : ℕ} {s : List ℕ} {i b : ℕ} (site : Site m n f g lo hi) (l : lo ≤ x) (h : y ≤ hi) (built : Built n f g lo x s i b) where
    free_site : Uniform f 0 x y
    free_site c u v = let e : c + 4 ^ 0 - 1 ≡ c = omega arith in rw e at (site.last c 0 c (omega arith) (omega arith) (aligned_unit c) (omega arith) (omega arith) (omega (arith, site.inside)))

    pub receives : Receives n (mixed f g lo x) x k (tiles (held s i b))
    receives = record {
      is = built.list;
      inside = omega (arith, site.inside);
      aligned = al;
      free = λ c u v. mixed_out f g lo x c (λ d. omega (arith, d.1)) ∙ free_site c (omega arith) (omega arith);
      last = λ j c a u v w. mixed_out f g lo x (c + 4 ^ j - 1) (λ d. omega (arith, d.1, area_pos k)) ∙ site.last (y - 1) j c (omega (arith, area_pos k)) (omega (arith, area_pos k)) a (omega arith) (omega (arith, area_pos k)) w;
    }

    pub high_on : i ≤ length s → High s b y
    high_on v = rw ey (behind_high s i b v built.low built.high (rw (held_tiles s i b) at receives))

  pub advance_skip : (s : List ℕ) (i b : ℕ) → Fits s i b → Advances s s i b x y (λ g. Uniform g 0 x y) i
  advance_skip s i b fit = record {
    fits = fit.0;
    on = λ n f g lo hi site l h u built. record {
      low = λ p. omega (arith, built.low p, area_pos k);
      high = high_on site l h built (omega (arith, fit));
      list = built.list ∙ quadtree_cong n (mixed f g lo x) (mixed f g lo y) (λ c q. same f g lo (free_site site l h built) l u c);
    };
  }
    where
      same : (f g : ℕ → ℕ) (lo : ℕ) → Uniform f 0 x y → lo ≤ x → Uniform g 0 x y → (c : ℕ) → mixed f g lo x c ≡ mixed f g lo y c
      same f g lo fu l gu c = elim (dec_lt c x) [
        | yes v ↦ elim (dec_lt c lo) [
          | yes i ↦ mixed_out f g lo x c (λ d. omega (arith, d.0)) ∙ sym (mixed_out f g lo y c (λ d. omega (arith, d.0)))
          | no i ↦ mixed_in f g lo x c (omega arith) v ∙ sym (mixed_in f g lo y c (omega arith) (omega (arith, area_pos k)))
        ]
        | no v ↦ elim (dec_lt c y) [
          | yes w ↦ mixed_out f g lo x c (λ d. v d.1) ∙ fu c (omega arith) w ∙ sym (gu c (omega arith) w) ∙ sym (mixed_in f g lo y c (omega arith) w)
          | no w ↦ mixed_out f g lo x c (λ d. v d.1) ∙ sym (mixed_out f g lo y c (λ d. w d.1))
        ]
      ]

  pub advance_put : (s t : List ℕ) (i b a : ℕ) (p : Outcome) → 0 < a → Fits s i b → length t ≡ length s → Pushed s t i b (tile x k a) p → Advances s t i b x y (λ g. Uniform g a x y) p.front
  advance_put s t i b a p pos fit len pushed = record {
    fits = pushed.fits;
    on = λ n f g lo hi site l h u built. put n f g lo hi site l h u built;
  }
    where
      put : (n : ℕ) (f g : ℕ → ℕ) (lo hi : ℕ) → Site (length s) n f g lo hi → lo ≤ x → y ≤ hi → Uniform g a x y → Built n f g lo x s i b → Built n f g lo y t p.front b
      put n f g lo hi site l h u built =
          let on = tile_pushed s t i b x k a p pos fit built.low built.high pushed n (mixed f g lo x) (receives site l h built) in
          let e : quadtree n (paint (mixed f g lo x) x (x + 4 ^ k) a) ≡ quadtree n (mixed f g lo y) = rw (← ey) (quadtree_cong n (paint (mixed f g lo x) x y a) (mixed f g lo y) (λ c q. mixed_painted f g lo x y a l (omega (arith, area_pos k)) u c)) in
          let r = site.room y (omega (arith, area_pos k)) h in
          let no : p.full ≡ false = on.full ∙ le-ltb (length s) _ (omega (arith, ap length e)) in
          record {
            low = rw ey (pushed.low built.low);
            high = λ v.
                let q : get_or t b 0 ≡ get_or s b 0 = sym (head_drop t b) ∙ rw pushed.back (head_drop s b) in
                rw q (high_on site l h built (omega (arith, fit)) (omega arith));
            list = rw pushed.there at (on.done no ∙ e);
          }

pub advance_then : (s t u : List ℕ) (i b x y z : ℕ) {P Q : (ℕ → ℕ) → Type 0} {r q : ℕ} → x ≤ y → y ≤ z → length t ≡ length s → Advances s t i b x y P r → Advances t u r b y z Q q → Advances s u i b x z (λ g. P g × Q g) q
advance_then s t u i b x y z xy yz len v w = record {
  fits = w.fits;
  on = λ n f g lo hi site l h is built. w.on n f g lo hi (rw (← len) at site) (omega arith) h is.1 (v.on n f g lo hi site l (omega arith) is.0 built);
}

pub advance_is : (s t : List ℕ) (i b x y : ℕ) {P Q : (ℕ → ℕ) → Type 0} {r : ℕ} → ((g : ℕ → ℕ) → Q g → P g) → Advances s t i b x y P r → Advances s t i b x y Q r
advance_is s t i b x y h v = record { fits = v.fits; on = λ n f g lo hi site l u is built. v.on n f g lo hi site l u (h g is) built }
