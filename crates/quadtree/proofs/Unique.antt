-- Uniqueness: a tiling without four siblings in a row is the only one, and so the linear quadtree.
--     one_tile     a uniform block at whose corner a tile no larger than the block starts is that one tile
--     AllTop       each tile of a list is as large as it can be
--     one_form     of two tilings of one raster, one without four siblings and one with largest tiles only, each is the other
use mathlib.Core.Path.{◌≡◌, refl, ap, sym, ◌∙◌}
use mathlib.Core.List.Memᴰ
use mathlib.Core.List.{List, [], ◌∷◌}
use Prim.Native.Nat.{ℕ, zero, suc, ◌+◌, ◌^◌, ◌≤◌, ◌<◌}
use native.Mathlib.Decide.{dec_lt, dec_le}
use native.Mathlib.Nat.{le_of_eq}
use native.Mathlib.Omega.{arith}
use Rattle.tile.specs.declared.Tile.{Tile}
use Rattle.tile.specs.Tile.{tile, stop}
use Rattle.quadtree.specs.Raster.{Aligned, Uniform, ◌∈◌}
use Rattle.quadtree.proofs.Alignment.{cmp, below, same, above, area_pos, size_le, aligned_down, aligned_gap, aligned_next}
use Rattle.quadtree.proofs.Tiling.{Next, Tiling, none, next, tiling_le, on_corner}
use Rattle.quadtree.proofs.Blocks.{Top}
use Rattle.quadtree.proofs.Siblings.{NoFour}

head_size : List Tile → ℕ
head_size [] = 0
head_size (t ∷ ts) = t.size

-- the list starts with the tile of size k and account a at c
record Starts (f : ℕ → ℕ) (hi a k c : ℕ) (ts : List Tile) : Type 0 where
  rest : List Tile
  is : ts ≡ tile c k a ∷ rest
  aligned : Aligned k c
  goes : Tiling f hi (c + 4 ^ k) rest
  left : NoFour rest

module _ (f : ℕ → ℕ) (hi a : ℕ) (owned : 0 < a) where
  starts : (c : ℕ) {ts : List Tile} → f c ≡ a → c < hi → Tiling f hi c ts → NoFour ts → Starts f hi a (head_size ts) c ts
  unfolding head_size
  starts c e h (none l b) nf = absurd (let g = b c (omega arith) h in omega arith)
  starts c e h (next {t = t} {ts = ts} n r) nf = elim (dec_lt c t.corner) [
    | yes l ↦ absurd (let g = n.blank c (omega arith) l in omega arith)
    | no l ↦
        let p : t.corner ≡ c = omega (arith, n.after) in
        let q : t.account ≡ a = sym (n.on.uniform c (omega arith) (omega (arith, area_pos t.size))) ∙ e in
        record { rest = ts; is = λ i. record { corner = p i; size = t.size; account = q i } ∷ ts; aligned = rw p at n.on.aligned; goes = rw p at r; left = nf.1 }
  ]

  -- a uniform block at whose corner a tile no larger than it starts is that one tile
  abbrev One : ℕ → Type 0
  One k = (c : ℕ) (ts : List Tile) → Aligned k c → Uniform f a c (c + 4 ^ k) → c + 4 ^ k ≤ hi → Tiling f hi c ts → NoFour ts → head_size ts ≤ k → Starts f hi a k c ts

  exact : (k c : ℕ) (ts : List Tile) → Uniform f a c (c + 4 ^ k) → c + 4 ^ k ≤ hi → Tiling f hi c ts → NoFour ts → head_size ts ≡ k → Starts f hi a k c ts
  exact k c ts u h t nf e = let pos = area_pos k in rw e at (starts c (u c (omega arith) (omega arith)) (omega arith) t nf)

  -- inside a block of size suc k no tile so large starts
  cap : (k c x : ℕ) {ts : List Tile} → Aligned (suc k) c → c < x → x < c + 4 ^ suc k → f x ≡ a → x < hi → Tiling f hi x ts → NoFour ts → head_size ts ≤ k
  cap k c x {ts} m l h e g t nf = elim (dec_le (head_size ts) k) [
    | yes y ↦ y
    | no y ↦ absurd (let d = aligned_gap m (aligned_down (omega arith) (starts x e g t nf).aligned) l in omega arith)
  ]

  module _ (k c : ℕ) (ih : One k) (m : Aligned (suc k) c) (u : Uniform f a c (c + 4 ^ suc k)) (h : c + 4 ^ suc k ≤ hi) where
    -- the tile of size k at x, which lies in the block behind its corner
    peel : (x : ℕ) {ts : List Tile} → Aligned k x → c < x → x + 4 ^ k ≤ c + 4 ^ suc k → Tiling f hi x ts → NoFour ts → Starts f hi a k x ts
    peel x {ts} mx l g t nf =
        let pos = area_pos k in
        ih x ts mx (λ z zl zh. u z (omega arith) (omega arith)) (omega arith) t nf (cap k c x m l (omega arith) (u x (omega arith) (omega arith)) (omega arith) t nf)

    no_four_tiles : {ts : List Tile} → Tiling f hi c ts → NoFour ts → head_size ts ≤ k → ⊥
    no_four_tiles {ts} t nf s = d0 (ih c ts m0 (λ z l g. u z l (omega arith)) (omega arith) t nf s)
      where
        m0 : Aligned k c
        m0 = aligned_down (omega arith) m

        d3 : (s0 : Starts f hi a k c ts) (s1 : Starts f hi a k (c + 4 ^ k) s0.rest) (s2 : Starts f hi a k (c + 4 ^ k + 4 ^ k) s1.rest) → Starts f hi a k (c + 4 ^ k + 4 ^ k + 4 ^ k) s2.rest → ⊥
        d3 s0 s1 s2 s3 = (rw (s0.is, s1.is, s2.is, s3.is) at nf).0 (record { aligned = m; second = refl; third = refl; fourth = refl })

        d2 : (s0 : Starts f hi a k c ts) (s1 : Starts f hi a k (c + 4 ^ k) s0.rest) → Starts f hi a k (c + 4 ^ k + 4 ^ k) s1.rest → ⊥
        d2 s0 s1 s2 = d3 s0 s1 s2 (peel (c + 4 ^ k + 4 ^ k + 4 ^ k) (aligned_next (aligned_next (aligned_next m0))) (omega (arith, area_pos k)) (omega arith) s2.goes s2.left)

        d1 : (s0 : Starts f hi a k c ts) → Starts f hi a k (c + 4 ^ k) s0.rest → ⊥
        d1 s0 s1 = d2 s0 s1 (peel (c + 4 ^ k + 4 ^ k) (aligned_next (aligned_next m0)) (omega (arith, area_pos k)) (omega arith) s1.goes s1.left)

        d0 : Starts f hi a k c ts → ⊥
        d0 s0 = d1 s0 (peel (c + 4 ^ k) (aligned_next m0) (omega (arith, area_pos k)) (omega arith) s0.goes s0.left)

  one_tile : (k : ℕ) → One k
  one_tile zero c ts m u h t nf s = exact zero c ts u h t nf (omega arith)
  one_tile (suc k) c ts m u h t nf s = elim (dec_le (head_size ts) k) [
    | yes l ↦ absurd (no_four_tiles k c (one_tile k) m u h t nf l)
    | no l ↦ exact (suc k) c ts u h t nf (omega arith)
  ]

abbrev pub AllTop : ℕ → (ℕ → ℕ) → List Tile → Type 0
AllTop n f ts = (t : Tile) → t ∈ ts → Top n f t

-- the law of one form
module _ (f : ℕ → ℕ) (n base hi : ℕ) (room : hi ≤ base + 4 ^ n) where
  module _ (lo : ℕ) (from : base ≤ lo) (t u : Tile) (ts us : List Tile) (p : Next f lo t) (r : Tiling f hi (stop t) ts) (nf : NoFour (t ∷ ts)) (q : Next f lo u) (s : Tiling f hi (stop u) us) (big : Top n f u) where
    same_corner : t.corner ≡ u.corner
    same_corner = elim (cmp t.corner u.corner) [
      | below l ↦ absurd (omega (arith, q.blank t.corner p.after l, on_corner p.on, p.on.owned))
      | same e ↦ e
      | above l ↦ absurd (omega (arith, p.blank u.corner q.after l, on_corner q.on, q.on.owned))
    ]

    same_account : t.account ≡ u.account
    same_account = sym (on_corner p.on) ∙ ap f same_corner ∙ on_corner q.on

    not_smaller : t.size < u.size → ⊥
    unfolding head_size
    not_smaller l =
        let x = one_tile f hi u.account q.on.owned u.size u.corner (t ∷ ts) q.on.aligned q.on.uniform (tiling_le s)
        (next (record { after = le_of_eq (sym same_corner); blank = λ z zl zh. omega (arith, same_corner); on = p.on }) r)
        nf (omega arith) in
        omega (arith, ap head_size x.is)

    not_larger : u.size < t.size → ⊥
    not_larger l = big.top t.size t.corner l (size_le t.size n (omega (arith, tiling_le r, p.after))) p.on.aligned (omega (arith, same_corner)) (omega (arith, same_corner, area_pos t.size))
        (λ z zl zh. p.on.uniform z zl zh ∙ same_account)

    same_first : t ≡ u
    same_first = elim (cmp t.size u.size) [
      | below l ↦ absurd (not_smaller l)
      | same e ↦ λ i. record { corner = same_corner i; size = e i; account = same_account i }
      | above l ↦ absurd (not_larger l)
    ]

  -- a blank stretch has no tile
  not_blank : {lo : ℕ} {t : Tile} {ts : List Tile} → Next f lo t → Tiling f hi (stop t) ts → Uniform f 0 lo hi → ⊥
  not_blank {t = t} p r b = omega (arith, tiling_le r, area_pos t.size, p.on.owned, on_corner p.on, b t.corner p.after (omega (arith, tiling_le r, area_pos t.size)))

  pub one_form : {lo : ℕ} {ts us : List Tile} → base ≤ lo → Tiling f hi lo ts → NoFour ts → Tiling f hi lo us → AllTop n f us → ts ≡ us
  one_form h (none l b) nf (none l' b') big = refl
  one_form h (none l b) nf (next q s) big = absurd (not_blank q s b)
  one_form h (next p r) nf (none l b) big = absurd (not_blank p r b)
  one_form {lo} h (next {t = t} {ts = ts} p r) nf (next {t = u} {ts = us} q s) big =
      let e = same_first lo h t u ts us p r nf q s (big u (Memᴰ.head refl)) in
      let g : ts ≡ us = one_form (omega (arith, p.after)) r nf.1 (rw (← e) at s) (λ v i. big v (Memᴰ.tail i)) in
      λ i. e i ∷ g i
