-- The linear quadtree from a Morton number on: what is still to come when a raster is walked in Morton order.
--     Rest n f lo us      us are the tiles of the linear quadtree of f from lo on
--     rest_all, rest_end  from 0 on it is the whole, and past the last number nothing
--     rest_blank          a stretch of nobody's has no tile
--     Full n f t          t is a tile of f, and no larger block that starts where t does is uniform
--     rest_tile           such a tile is the next one
--     rest_run            a run is cut into its largest blocks
use mathlib.Core.Path.{◌≡◌, refl, ap, ◌∙◌, sym}
use mathlib.Core.List.{List, [], ◌∷◌, ◌++◌}
use mathlib.Core.List.Memᴰ
use Prim.Native.Nat.{ℕ, zero, suc, ◌+◌, ◌-◌, ◌^◌, ◌≤◌, ◌<◌}
use native.Mathlib.Omega.{arith}
use native.Mathlib.Decide.{dec_lt, dec_le}
use Rattle.tile.specs.declared.Tile.{Tile}
use Rattle.tile.specs.Tile.{tile, stop}
use Rattle.quadtree.specs.Raster.{Aligned, Uniform}
use Rattle.quadtree.specs.Quadtree.{quadtree}
use Rattle.quadtree.proofs.Alignment.{cmp, below, same, above, area_pos, area_mono, size_le, aligned_down}
use Rattle.quadtree.proofs.Tiling.{On, Next, Tiling, none, next, tiling_le, on_corner}
use Rattle.quadtree.proofs.Unique.{AllTop}
use Rattle.quadtree.proofs.ValidLaws.{quadtree_tiling, quadtree_top}
use Rattle.quadtree.specs.Runs.{Greedy, largest, cut, Ended, RunAt}
use Rattle.quadtree.proofs.Cuts.{largest_greedy, cut_step, cut_end, cut_nobody}

pub record Rest (n : ℕ) (f : ℕ → ℕ) (lo : ℕ) (us : List Tile) : Type 0 where
  pub tiling : Tiling f (4 ^ n) lo us
  pub tops : AllTop n f us

pub rest_all : (n : ℕ) (f : ℕ → ℕ) → Rest n f 0 (quadtree n f)
rest_all n f = record { tiling = quadtree_tiling n f; tops = quadtree_top n f }

pub rest_end : {n : ℕ} {f : ℕ → ℕ} {lo : ℕ} {us : List Tile} → Rest n f lo us → 4 ^ n ≤ lo → us ≡ []
rest_end {n} {f} {lo} {us} r h = go r.tiling
  where
    go : {us : List Tile} → Tiling f (4 ^ n) lo us → us ≡ []
    go (none l b) = refl
    go (next {t = t} p s) = absurd (omega (arith, tiling_le s, p.after, area_pos t.size))

pub rest_blank : {n : ℕ} {f : ℕ → ℕ} {lo : ℕ} {us : List Tile} (hi : ℕ) → lo ≤ hi → hi ≤ 4 ^ n → Uniform f 0 lo hi → Rest n f lo us → Rest n f hi us
rest_blank {n} {f} {lo} {us} hi h l u r = record { tiling = go r.tiling; tops = r.tops }
  where
    go : {us : List Tile} → Tiling f (4 ^ n) lo us → Tiling f (4 ^ n) hi us
    go (none g b) = none {lo = hi} l (λ z p q. b z (omega arith) q)
    go (next {t = t} p s) = elim (dec_lt t.corner hi) [
      | yes g ↦ absurd (omega (arith, u t.corner p.after g, on_corner p.on, p.on.owned))
      | no g ↦ next {lo = hi} {t = t} (record { after = omega arith; blank = λ z x y. p.blank z (omega arith) y; on = p.on }) s
    ]

-- what follows the tiles done
pub record Behind (n : ℕ) (f : ℕ → ℕ) (hi : ℕ) (done us : List Tile) : Type 0 where
  pub rest : List Tile
  pub is : us ≡ done ++ rest
  pub goes : Rest n f hi rest

-- a tile of the raster, where no larger block that starts with it is uniform
pub record Full (n : ℕ) (f : ℕ → ℕ) (v : Tile) : Type 0 where
  pub on : On f v
  pub room : stop v ≤ 4 ^ n
  pub stuck : Aligned (suc v.size) v.corner → v.corner + 4 ^ suc v.size ≤ 4 ^ n → Uniform f v.account v.corner (v.corner + 4 ^ suc v.size) → ⊥

module _ {n : ℕ} {f : ℕ → ℕ} {v : Tile} (w : Full n f v) where
  module _ (t : Tile) (ts : List Tile) (p : Next f v.corner t) (s : Tiling f (4 ^ n) (stop t) ts) (big : AllTop n f (t ∷ ts)) (c : t.corner ≡ v.corner) where
    account : t.account ≡ v.account
    account = sym (on_corner p.on) ∙ ap f c ∙ on_corner w.on

    not_smaller : t.size < v.size → ⊥
    not_smaller h = (big t (Memᴰ.head refl)).top v.size v.corner h (size_le v.size n (omega (arith, w.room))) w.on.aligned (omega arith) (omega (arith, area_pos v.size)) (λ z x y. w.on.uniform z x y ∙ sym account)

    not_larger : v.size < t.size → ⊥
    not_larger h =
        let g : 4 ^ suc v.size ≤ 4 ^ t.size = area_mono h in
        w.stuck (rw c at (aligned_down h p.on.aligned)) (omega (arith, tiling_le s)) (λ z x y. p.on.uniform z (omega arith) (omega arith) ∙ account)

    first : Behind n f (stop v) (v ∷ []) (t ∷ ts)
    first = elim (cmp t.size v.size) [
      | below h ↦ absurd (not_smaller h)
      | same e ↦ let q : t ≡ v = (λ i. record { corner = c i; size = e i; account = account i }) in
          record { rest = ts; is = ap (λ (x : Tile). x ∷ ts) q; goes = record { tiling = rw q at s; tops = λ u i. big u (Memᴰ.tail i) } }
      | above h ↦ absurd (not_larger h)
    ]

  starts : {us : List Tile} → Tiling f (4 ^ n) v.corner us → AllTop n f us → Behind n f (stop v) (v ∷ []) us
  starts (none l b) big = absurd (omega (arith, b v.corner (omega arith) (omega (arith, area_pos v.size, w.room)), on_corner w.on, w.on.owned))
  starts (next {t = t} {ts = ts} p s) big = elim (cmp v.corner t.corner) [
    | below h ↦ absurd (omega (arith, p.blank v.corner (omega arith) h, on_corner w.on, w.on.owned))
    | same e ↦ first t ts p s big (sym e)
    | above h ↦ absurd (omega (arith, p.after))
  ]

  pub rest_tile : {us : List Tile} → Rest n f v.corner us → Behind n f (stop v) (v ∷ []) us
  rest_tile r = starts r.tiling r.tops

module _ {n : ℕ} {f : ℕ → ℕ} {hi a : ℕ} (owned : 0 < a) (room : hi ≤ 4 ^ n) (ended : Ended f (4 ^ n) a hi) where
  -- the largest block of a run
  rest_largest : {lo k : ℕ} {us : List Tile} → Greedy lo hi k → Uniform f a lo hi → Rest n f lo us → Behind n f (lo + 4 ^ k) (tile lo k a ∷ []) us
  rest_largest {lo} {k} g u r = rest_tile (record {
    on = record { aligned = g.aligned; owned = owned; uniform = λ z x y. u z x (omega (arith, g.fits)) };
    room = omega (arith, g.fits);
    stuck = λ m l v. elim (dec_le (lo + 4 ^ suc k) hi) [ yes h ↦ g.top m h | no h ↦ ended (omega arith) (v hi (omega (arith, g.fits, area_pos k)) (omega arith)) ];
  }) r

  module _ (cap : ℕ) (high : hi ≤ 4 ^ cap) where
    rest_none : {lo : ℕ} {us : List Tile} → lo ≡ hi → Rest n f lo us → Behind n f hi (cut cap lo hi a) us
    rest_none {lo} {us} e r = rw (cut_end cap lo hi a (omega arith)) (record { rest = us; is = refl; goes = rw e at r })

    rest_more : {lo k : ℕ} {us : List Tile} → lo < hi → Greedy lo hi k → (b : Behind n f (lo + 4 ^ k) (tile lo k a ∷ []) us) → Behind n f hi (cut cap (lo + 4 ^ k) hi a) b.rest → Behind n f hi (cut cap lo hi a) us
    rest_more {lo} {k} q g b d = rw (cut_step cap a owned q high g) (record { rest = d.rest; is = b.is ∙ ap (λ (ts : List Tile). tile lo k a ∷ ts) d.is; goes = d.goes })

    -- with at most m blocks
    rest_cut : (m : ℕ) {lo : ℕ} {us : List Tile} → hi ≤ lo + m → lo ≤ hi → Uniform f a lo hi → Rest n f lo us → Behind n f hi (cut cap lo hi a) us
    rest_cut zero h l u r = rest_none (omega arith) r
    rest_cut (suc m) {lo} {us} h l u r = elim (dec_lt lo hi) [
      | yes q ↦
          let k = largest cap lo hi in
          let g = largest_greedy cap lo hi q high in
          let b = rest_largest g u r in
          rest_more q g b (rest_cut m {lo = lo + 4 ^ k} (omega (arith, area_pos k)) g.fits (λ z x y. u z (omega arith) y) b.goes)
      | no q ↦ rest_none (omega arith) r
    ]

-- the law of a run, somebody's or nobody's; sizes are looked for up to any `cap` that is not too small
pub rest_run : {n : ℕ} {f : ℕ → ℕ} {lo a hi : ℕ} {us : List Tile} (cap : ℕ) → hi ≤ 4 ^ cap → RunAt f (4 ^ n) lo a hi → Rest n f lo us → Behind n f hi (cut cap lo hi a) us
rest_run {lo = lo} {a = zero} {hi} {us} cap m p r = rw (cut_nobody cap lo hi) (record { rest = us; is = refl; goes = rest_blank hi (omega (arith, p.some)) p.room p.uniform r })
rest_run {lo = lo} {a = suc a} {hi} cap m p r = rest_cut (omega arith) p.room p.ended cap m (hi - lo) (omega arith) (omega (arith, p.some)) p.uniform r
