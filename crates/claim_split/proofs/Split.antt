-- Laws of a block of one account inside a block of another (`Split`), taken apart level by level.
--     Holder c s d i e        quadrant i, at e, of the block of size s + 1 at d holds the number c; `holder` computes it
--     Child k c s d i e       it holds the block of size k at c; `child` computes it
--     split_self              a uniform block is split at its own size
--     split_mixed, -alone     a split block is not uniform, so that no larger uniform block holds it
--     split_down, -step       one level down: the quadrant that holds the inner block, between the owner's other three
--     split_end               no level is left
--     split_pieces            the blocks of a split block are its `pieces`
--     split_length            and are three for each level, besides the inner one
use mathlib.Core.Path.{◌≡◌, refl, ap, sym, ◌∙◌}
use mathlib.Core.List.{[], ◌∷◌, ◌++◌, append-nil}
use mathlib.Core.Logic.{◌⊎◌, inl, inr}
use Prim.Native.Nat.{ℕ, zero, suc, ◌+◌, ◌-◌, ◌*◌, ◌/◌, ◌%◌, ◌^◌, ◌≤◌, ◌<◌}
use native.Mathlib.Omega.{arith}
use native.Mathlib.Decide.{dec_lt, dec_le}
use native.Mathlib.Nat.{div-add-mod', mod-lt, le_refl, mul-le-mul_right}
use lib.ListN.{length, length-append}
use Rattle.tile.specs.Tile.{tile}
use Rattle.quadtree.specs.Raster.{Aligned, Uniform}
use Rattle.quadtree.specs.Quadtree.{single, four, blocks}
use Rattle.quadtree.proofs.Alignment.{aligned_down, aligned_next, aligned_gap, aligned_quarter, area_pos, area_mono}
use Rattle.quadtree.proofs.Blocks.{blocks_uniform, blocks_mixed}
use Rattle.quadtree.specs.Tiling.{equal_tiles}
use Rattle.quadtree.proofs.Merge.{equal_tiles_length}
use Rattle.claim_split.proofs.Splice.{Alone}
use Rattle.claim_split.specs.Split.{Split, pieces}

pub single_some : (c k v : ℕ) → 0 < v → single c k v ≡ tile c k v ∷ []
unfolding single
single_some c k zero h = absurd (omega arith)
single_some c k (suc v) h = refl

pub record Child (k c s d i e : ℕ) : Type 0 where
  pub four : i ≤ 3
  pub is : e ≡ d + i * 4 ^ s
  pub from : e ≤ c
  pub upto : c + 4 ^ k ≤ e + 4 ^ s
  pub aligned : Aligned s e

pub record Holder (c s d i e : ℕ) : Type 0 where
  pub four : i ≤ 3
  pub from : e ≤ c
  pub upto : c < e + 4 ^ s
  pub room : e + 4 ^ s ≤ d + 4 ^ suc s

pub holder : (c s d : ℕ) → d ≤ c → c < d + 4 ^ suc s → Holder c s d ((c - d) / 4 ^ s) (d + (c - d) / 4 ^ s * 4 ^ s)
holder c s d h l =
    let e : (c - d) / 4 ^ s * 4 ^ s + (c - d) % 4 ^ s ≡ c - d = div-add-mod' (c - d) (4 ^ s) in
    let m : (c - d) % 4 ^ s < 4 ^ s = mod-lt (c - d) (area_pos s) in
    let small : (c - d) / 4 ^ s ≤ 3 = elim (dec_le ((c - d) / 4 ^ s) 3) [ yes y ↦ y | no y ↦ absurd (let w : 4 * 4 ^ s ≤ (c - d) / 4 ^ s * 4 ^ s = mul-le-mul_right (4 ^ s) (omega arith) in omega arith) ] in
    let b : (c - d) / 4 ^ s * 4 ^ s ≤ 3 * 4 ^ s = mul-le-mul_right (4 ^ s) small in
    record { four = small; from = omega arith; upto = omega arith; room = omega arith }

pub child : {g : ℕ → ℕ} {k c a v s d : ℕ} → Split g k c a v (suc s) d → k ≤ s → Child k c s d ((c - d) / 4 ^ s) (d + (c - d) / 4 ^ s * 4 ^ s)
child {g} {k} {c} {a} {v} {s} {d} t h =
    let q = holder c s d t.from (omega (arith, t.upto, area_pos k)) in
    let m : Aligned s (d + (c - d) / 4 ^ s * 4 ^ s) = aligned_quarter ((c - d) / 4 ^ s) (aligned_down (omega arith) t.outer) in
    record { four = q.four; is = refl; from = q.from; upto = aligned_gap t.aligned (aligned_down h (aligned_next m)) q.upto; aligned = m }

pub split_mixed : {g : ℕ → ℕ} {k c a v s d : ℕ} → Split g k c a v s d → k < s → (w : ℕ) → Uniform g w d (d + 4 ^ s) → ⊥
split_mixed {g} {k} {c} {a} {v} {s} {d} t h w u =
    let big : 4 ^ suc k ≤ 4 ^ s = area_mono h in
    let pos = area_pos k in
    let x : g c ≡ a = t.inside c (omega arith) (omega arith) in
    let y : g c ≡ w = u c t.from (omega (arith, t.upto)) in
    elim (dec_lt d c) [
      | yes l ↦ t.differ h (sym x ∙ y ∙ sym (u d (omega arith) (omega arith)) ∙ t.outside d (omega arith) (omega arith) (λ i. omega (arith, i.0)))
      | no l ↦ t.differ h (sym x ∙ y ∙ sym (u (c + 4 ^ k) (omega (arith, t.from)) (omega (arith, t.from))) ∙ t.outside (c + 4 ^ k) (omega (arith, t.from)) (omega (arith, t.from)) (λ i. omega (arith, i.1)))
    ]

pub split_alone : {g : ℕ → ℕ} {k c a v s d : ℕ} (n : ℕ) → Split g k c a v s d → k < s → Alone g n s d
split_alone n t h j x w lt le m l r o u = split_mixed t h w (λ z zl zh. u z (omega arith) (omega arith))

pub split_self : (g : ℕ → ℕ) (k c a v : ℕ) → Aligned k c → Uniform g a c (c + 4 ^ k) → Split g k c a v k c
split_self g k c a v m u = record { aligned = m; outer = m; sizes = le_refl k; from = le_refl c; upto = le_refl _; inside = u; outside = λ z l h f. absurd (f (l, h)); differ = λ l. absurd (omega arith); owned = λ l. absurd (omega arith) }

module _ {g : ℕ → ℕ} {k c a v s d : ℕ} (t : Split g k c a v (suc s) d) (h : k ≤ s) where
  module _ {i e : ℕ} (x : Child k c s d i e) where
    pub split_down : Split g k c a v s e
    split_down = record {
      aligned = t.aligned;
      outer = x.aligned;
      sizes = h;
      from = x.from;
      upto = x.upto;
      inside = t.inside;
      outside = λ z l u n. t.outside z (omega (arith, x.is)) (omega (arith, x.is, w)) n;
      differ = λ l. t.differ (omega arith);
      owned = λ l. t.owned (omega arith);
    }
      where
        w : i * 4 ^ s ≤ 3 * 4 ^ s
        w = mul-le-mul_right (4 ^ s) x.four

    -- a quadrant that does not hold the inner block
    one : (y w : ℕ) → y ≡ w → d ≤ y → y + 4 ^ s ≤ d + 4 ^ suc s → (y + 4 ^ s ≤ e) ⊎ (e + 4 ^ s ≤ y) → blocks g s y ≡ tile w s v ∷ []
    one y w q l u side = blocks_uniform g v s y (λ z zl zh. t.outside z (omega arith) (omega arith) (λ n. elim side [ inl b ↦ omega (arith, n.0, x.from) | inr b ↦ omega (arith, n.1, x.upto) ])) ∙ single_some y s v (t.owned (omega arith)) ∙ ap (λ (p : ℕ). tile p s v ∷ []) q

    abbrev Taken : ℕ → Type 0
    Taken i = four (λ y. blocks g s y) s d ≡ equal_tiles s v i d ++ (blocks g s e ++ equal_tiles s v (3 - i) (e + 4 ^ s))

    taken : (i : ℕ) → i ≤ 3 → e ≡ d + i * 4 ^ s → Taken i
    unfolding four equal_tiles
    taken zero l q = rw (one (d + 4 ^ s) (e + 4 ^ s) (omega arith) (omega arith) (omega arith) (inr (omega arith)), one (d + 2 * 4 ^ s) (e + 4 ^ s + 4 ^ s) (omega arith) (omega arith) (omega arith) (inr (omega arith)), one (d + 3 * 4 ^ s) (e + 4 ^ s + 4 ^ s + 4 ^ s) (omega arith) (omega arith) (omega arith) (inr (omega arith)), (let p : e ≡ d = omega arith in p))
    taken (suc zero) l q = rw (one d d refl (omega arith) (omega arith) (inl (omega arith)), (let p : d + 4 ^ s ≡ e = omega arith in p), one (d + 2 * 4 ^ s) (e + 4 ^ s) (omega arith) (omega arith) (omega arith) (inr (omega arith)), one (d + 3 * 4 ^ s) (e + 4 ^ s + 4 ^ s) (omega arith) (omega arith) (omega arith) (inr (omega arith)))
    taken (suc (suc zero)) l q = rw (one d d refl (omega arith) (omega arith) (inl (omega arith)), one (d + 4 ^ s) (d + 4 ^ s) refl (omega arith) (omega arith) (inl (omega arith)), (let p : d + 2 * 4 ^ s ≡ e = omega arith in p), one (d + 3 * 4 ^ s) (e + 4 ^ s) (omega arith) (omega arith) (omega arith) (inr (omega arith)))
    taken (suc (suc (suc zero))) l q = rw (one d d refl (omega arith) (omega arith) (inl (omega arith)), one (d + 4 ^ s) (d + 4 ^ s) refl (omega arith) (omega arith) (inl (omega arith)), one (d + 2 * 4 ^ s) (d + 4 ^ s + 4 ^ s) (omega arith) (omega arith) (omega arith) (inl (omega arith)), (let p : d + 3 * 4 ^ s ≡ e = omega arith in p), append-nil)
    taken (suc (suc (suc (suc i)))) l q = absurd (omega arith)

    pub split_step : blocks g (suc s) d ≡ equal_tiles s v i d ++ (blocks g s e ++ equal_tiles s v (3 - i) (e + 4 ^ s))
    split_step = blocks_mixed g s d (split_mixed t (omega arith) (g d)) ∙ taken i x.four x.is

pub split_end : {g : ℕ → ℕ} {k c a v d : ℕ} → Split g k c a v k d → (d ≡ c) × (blocks g k d ≡ single c k a)
split_end {g} {k} {c} {a} {v} {d} t = let e : d ≡ c = omega (arith, t.from, t.upto) in (e, rw e (blocks_uniform g a k c t.inside))

pub split_length : {g : ℕ → ℕ} {k c a v : ℕ} (l s d : ℕ) → s ≡ k + l → Split g k c a v s d → length (blocks g s d) ≡ 3 * l + length (single c k a)
split_length {g} {k} {c} {a} {v} zero s d e t = let q : s ≡ k = omega arith in rw (q, (split_end (rw q at t)).1) (omega arith)
split_length {g} {k} {c} {a} {v} (suc l) zero d e t = absurd (omega arith)
split_length {g} {k} {c} {a} {v} (suc l) (suc s) d e t =
    let h : k ≤ s = omega arith in
    let y = child t h in
    let x : ℕ = d + (c - d) / 4 ^ s * 4 ^ s in
    let ih = split_length l s x (omega arith) (split_down t h y) in
    rw (split_step t h y, length-append (equal_tiles s v ((c - d) / 4 ^ s) d), length-append (blocks g s x), equal_tiles_length, equal_tiles_length) (omega (arith, y.four, ih))

pub split_pieces : {g : ℕ → ℕ} {k c a v : ℕ} (l s d : ℕ) → s ≡ k + l → Split g k c a v s d → blocks g s d ≡ pieces k c a v l d
unfolding pieces
split_pieces {g} {k} {c} {a} {v} zero s d e t = let q : s ≡ k = omega arith in rw q (split_end (rw q at t)).1
split_pieces {g} {k} {c} {a} {v} (suc l) zero d e t = absurd (omega arith)
split_pieces {g} {k} {c} {a} {v} (suc l) (suc s) d e t =
    let h : k ≤ s = omega arith in
    let y = child t h in
    let q : k + l ≡ s = omega arith in
    rw (q, split_step t h y, split_pieces l s (d + (c - d) / 4 ^ s * 4 ^ s) (omega arith) (split_down t h y))
