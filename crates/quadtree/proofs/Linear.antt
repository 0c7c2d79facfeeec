-- The linear quadtree as a reader defines it: the executable quadtree satisfies the definition, and only that list does.
--     quadtree_linear   `quadtree n f` is the linear quadtree of f
--     quadtree_low      its accounts are no higher than those of the raster
--     linear_unique     a linear quadtree of f is `quadtree n f`
--     valid_linear      a valid list is the linear quadtree of the accounts that it shows
--     valid_cover       in a valid list a uniform block of somebody's lies inside one tile
--     quadtree_shows    the linear quadtree of f shows f
use mathlib.Core.Path.{◌≡◌, refl, ap, sym, ◌∙◌}
use mathlib.Core.List.Memᴰ
use mathlib.Core.List.{List, ◌∷◌}
use mathlib.Core.Logic.{◌⊎◌, inl, inr}
use Prim.Native.Nat.{ℕ, ◌+◌, ◌^◌, ◌≤◌, ◌<◌}
use native.Mathlib.Decide.{dec_lt, dec_le}
use native.Mathlib.Omega.{arith}
use Rattle.tile.specs.declared.Tile.{Tile}
use Rattle.tile.specs.Tile.{stop}
use Rattle.quadtree.specs.Raster.{Aligned, Covers, Uniform, account_at, ◌∈◌, Shows}
use Rattle.quadtree.specs.Quadtree.{Largest, Rising, end, link, LinearQuadtree, quadtree}
use Rattle.quadtree.specs.Valid.{Valid}
use Rattle.quadtree.proofs.Alignment.{Cmp, cmp, below, same, above, area_pos, aligned_gap, aligned_down, aligned_nest}
use Rattle.quadtree.proofs.Tiling.{Tiling, none, next, placed}
use Rattle.quadtree.proofs.Chains.{rising_down, rising_from}
use Rattle.quadtree.proofs.ValidLaws.{quadtree_tiling, quadtree_top, valid_tiling, valid_quadtree}

-- the tile on a somebody's pixel
pub tiling_held : {f : ℕ → ℕ} {hi lo : ℕ} {ts : List Tile} → Tiling f hi lo ts → (z : ℕ) → lo ≤ z → z < hi → 0 < f z → (t : Tile) × (t ∈ ts) × Covers t z
tiling_held (none h b) z l g o = absurd (omega (arith, b z l g))
tiling_held (next {t = t} {ts = ts} n r) z l g o = elim (dec_lt z t.corner) [
  | yes b ↦ absurd (omega (arith, n.blank z l b))
  | no b ↦ elim (dec_lt z (stop t)) [
    | yes c ↦ (t, Memᴰ.head refl, (omega arith, c))
    | no c ↦ let h = tiling_held r z (omega arith) g o in (h.0, Memᴰ.tail h.1, h.2)
  ]
]

-- of two largest blocks that meet, each is the other
largest_meet : {n : ℕ} {f : ℕ → ℕ} {t u : Tile} → Largest n f t → Largest n f u → Covers u t.corner → u ≡ t
largest_meet {n} {f} {t} {u} p q c = go (cmp u.size t.size)
  where
    account : u.account ≡ t.account
    account = sym (q.uniform t.corner c.0 c.1) ∙ p.uniform t.corner (omega arith) (omega (arith, area_pos t.size))

    corner : u.size ≤ t.size → u.corner ≡ t.corner
    corner s = elim (dec_lt u.corner t.corner)
        [ yes g ↦ absurd (omega (arith, aligned_gap q.quadrant.aligned (aligned_down s p.quadrant.aligned) g, c.1)) | no g ↦ omega (arith, c.0) ]

    go : Cmp u.size t.size → u ≡ t
    go (below s) = let e = corner (omega arith) in
        absurd (q.top t.size t.corner s p.quadrant.fits p.quadrant.aligned (omega arith) (omega (arith, area_pos t.size)) (λ z zl zh. p.uniform z zl zh ∙ sym account))
    go (same s) = λ i. record { corner = corner (omega arith) i; size = s i; account = account i }
    go (above s) = absurd (p.top u.size u.corner s q.quadrant.fits q.quadrant.aligned c.0 c.1 (λ z zl zh. q.uniform z zl zh ∙ account))

pub quadtree_largest : (n : ℕ) (f : ℕ → ℕ) {t : Tile} → t ∈ quadtree n f → Largest n f t
quadtree_largest n f {t} i =
    let p = placed (quadtree_tiling n f) i in
    let b = quadtree_top n f t i in
    record { quadrant = record { fits = b.fits; inside = omega (arith, p.upto, area_pos t.size); aligned = p.on.aligned; owned = p.on.owned }; uniform = p.on.uniform; top = b.top }

pub quadtree_low : (n : ℕ) (f : ℕ → ℕ) (most : ℕ) → ((z : ℕ) → z < 4 ^ n → f z ≤ most) → (t : Tile) → t ∈ quadtree n f → t.account ≤ most
quadtree_low n f most low t i =
    let l = quadtree_largest n f i in
    omega (arith, l.uniform t.corner (omega arith) (omega (arith, area_pos t.size)), low t.corner l.quadrant.inside)

pub largest_quadtree : (n : ℕ) (f : ℕ → ℕ) {t : Tile} → Largest n f t → t ∈ quadtree n f
largest_quadtree n f {t} b =
    let e = b.uniform t.corner (omega arith) (omega (arith, area_pos t.size)) in
    let h = tiling_held (quadtree_tiling n f) t.corner (omega arith) b.quadrant.inside (omega (arith, b.quadrant.owned)) in
    Memᴰ.cast (sym (largest_meet b (quadtree_largest n f h.1) h.2)) h.1

-- a tiling goes by rising corner
tiling_rising : {f : ℕ → ℕ} {hi lo : ℕ} {ts : List Tile} → Tiling f hi lo ts → Rising lo ts
tiling_rising (none h b) = end
tiling_rising (next {t = t} n r) = link n.after (rising_down (omega (arith, area_pos t.size)) (tiling_rising r))

pub quadtree_linear : (n : ℕ) (f : ℕ → ℕ) → LinearQuadtree n f (quadtree n f)
quadtree_linear n f = record { rising = tiling_rising (quadtree_tiling n f); members = λ t. (quadtree_largest n f, largest_quadtree n f) }

-- two rising lists of the same tiles are the same
abbrev Sub : List Tile → List Tile → Type 0
Sub ts us = (t : Tile) → t ∈ ts → t ∈ us

rising_head : {lo lo' : ℕ} {t u : Tile} {ts us : List Tile} → Rising lo (t ∷ ts) → Rising lo' (u ∷ us) → Sub (t ∷ ts) (u ∷ us) → Sub (u ∷ us) (t ∷ ts) → t ≡ u
rising_head {t = t} {u = u} {ts = ts} {us = us} (link h r) (link g s) p q = go (Memᴰ.cases_cons (p t (Memᴰ.head refl))) (Memᴰ.cases_cons (q u (Memᴰ.head refl)))
  where
    go : (t ≡ u) ⊎ (t ∈ us) → (u ≡ t) ⊎ (u ∈ ts) → t ≡ u
    go (inl e) y = e
    go (inr m) (inl e) = sym e
    go (inr m) (inr k) = absurd (omega (arith, rising_from s m, rising_from r k))

rising_tail : {lo : ℕ} {t u : Tile} {ts us : List Tile} → Rising lo (t ∷ ts) → u ≡ t → Sub (t ∷ ts) (u ∷ us) → Sub ts us
rising_tail {t = t} {u = u} {ts = ts} {us = us} (link h r) e p x m = go (Memᴰ.cases_cons (p x (Memᴰ.tail m)))
  where
    go : (x ≡ u) ⊎ (x ∈ us) → x ∈ us
    go (inl q) = absurd (omega (arith, rising_from r m, ap (λ (y : Tile). y.corner) (q ∙ e)))
    go (inr k) = k

rising_same : {lo lo' : ℕ} {ts us : List Tile} → Rising lo ts → Rising lo' us → Sub ts us → Sub us ts → ts ≡ us
rising_same end end p q = refl
rising_same end (link {t = u} g s) p q = absurd (Memᴰ.not-nil (q u (Memᴰ.head refl)))
rising_same (link {t = t} h r) end p q = absurd (Memᴰ.not-nil (p t (Memᴰ.head refl)))
rising_same (link {t = t} {ts = ts} h r) (link {t = u} {ts = us} g s) p q =
    let e : t ≡ u = rising_head (link h r) (link g s) p q in
    let k : ts ≡ us = rising_same r s (rising_tail (link h r) (sym e) p) (rising_tail (link g s) e q) in
    λ i. e i ∷ k i

pub linear_unique : {n : ℕ} {f : ℕ → ℕ} {ts : List Tile} → LinearQuadtree n f ts → ts ≡ quadtree n f
linear_unique {n} {f} l = rising_same l.rising (tiling_rising (quadtree_tiling n f)) (λ t m. largest_quadtree n f ((l.members t).0 m)) (λ t m. (l.members t).1 (quadtree_largest n f m))

pub valid_linear : {n : ℕ} {ts : List Tile} → Valid n ts → LinearQuadtree n (account_at ts) ts
valid_linear {n} {ts} v = rw (← valid_quadtree v) at (quadtree_linear n (account_at ts))

-- the cover law
pub valid_cover : {n : ℕ} {ts : List Tile} (k c a : ℕ) → Valid n ts → k ≤ n → Aligned k c → c < 4 ^ n → 0 < a → Uniform (account_at ts) a c (c + 4 ^ k) →
    (t : Tile) × (t ∈ ts) × (t.account ≡ a) × (t.corner ≤ c) × (c + 4 ^ k ≤ stop t)
valid_cover {n} {ts} k c a v h m l o u = go (tiling_held (valid_tiling v) c (omega arith) l (omega (arith, u c (omega arith) (omega (arith, area_pos k)))))
  where
    go : (t : Tile) × (t ∈ ts) × Covers t c → (t : Tile) × (t ∈ ts) × (t.account ≡ a) × (t.corner ≤ c) × (c + 4 ^ k ≤ stop t)
    go (t, i, w) = elim (dec_le k t.size) [
      | yes s ↦ let b = aligned_nest {j = k} {k = t.size} {x = c} {c = t.corner} s m p.quadrant.aligned (omega (arith, w.0, area_pos k)) w.1 in (t, i, e, b.0, b.1)
      | no s ↦
          let b = aligned_nest {j = t.size} {k = k} {x = t.corner} {c = c} (omega arith) p.quadrant.aligned m w.1 (omega (arith, w.0, area_pos k)) in
          absurd (p.top k c (omega arith) h m b.0 (omega (arith, w.0, area_pos k)) (λ z zl zh. u z zl zh ∙ sym e))
    ]
      where
        p : Largest n (account_at ts) t
        p = ((valid_linear v).members t).0 i

        e : t.account ≡ a
        e = sym (p.uniform c w.0 w.1) ∙ u c (omega arith) (omega (arith, area_pos k))

pub quadtree_shows : (n : ℕ) (f : ℕ → ℕ) → Shows n f (quadtree n f)
quadtree_shows n f = record {
  quadrants = λ t i. (quadtree_largest n f i).quadrant;
  bears = λ z h o t i c. sym ((quadtree_largest n f i).uniform z c.0 c.1);
  held = λ z h o. tiling_held (quadtree_tiling n f) z (omega arith) h o;
  free = λ z h e t i c. omega (arith, (quadtree_largest n f i).uniform z c.0 c.1, (quadtree_largest n f i).quadrant.owned);
}
