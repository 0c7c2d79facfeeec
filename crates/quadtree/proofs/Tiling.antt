-- Laws of tilings, the relation that carries a raster through every proof.
--     Placed f hi lo t           where a tile of such a list lies
--     tiling_blank, -append, -split   tilings put together and taken apart
--     tiling_cut                 a tiling cut where no tile lies
--     tiling_cong                a tiling goes by what the raster is from lo up to hi
use mathlib.Core.Path.{◌≡◌, refl, ◌∙◌}
use mathlib.Core.List.Memᴰ
use mathlib.Core.List.{List, [], ◌∷◌, ◌++◌}
use Prim.Native.Nat.{ℕ, ◌≤◌, ◌<◌}
use native.Mathlib.Omega.{arith}
use native.Mathlib.Nat.{le_refl}
use Rattle.tile.specs.declared.Tile.{Tile}
use Rattle.tile.specs.Tile.{stop}
use Rattle.quadtree.specs.Raster.{Uniform, ◌∈◌}
use Rattle.quadtree.proofs.Alignment.{cmp, below, same, above, area_pos}
pub use Rattle.quadtree.specs.Tiling.{On, Next, Tiling, none, next}

pub uniform_join : {f : ℕ → ℕ} {a lo mid hi : ℕ} → Uniform f a lo mid → Uniform f a mid hi → Uniform f a lo hi
uniform_join {f} {a} {lo} {mid} {hi} p q z l h = elim (cmp z mid) [ below b ↦ p z l b | same e ↦ q z (omega arith) h | above b ↦ q z (omega arith) h ]

-- what the raster is at the corner of a tile
pub on_corner : {f : ℕ → ℕ} {t : Tile} → On f t → f t.corner ≡ t.account
on_corner {t = t} o = o.uniform t.corner (le_refl _) (omega (arith, area_pos t.size))

pub on_cong : {f g : ℕ → ℕ} {t : Tile} → On f t → ((z : ℕ) → t.corner ≤ z → z < stop t → g z ≡ f z) → On g t
on_cong o e = record { aligned = o.aligned; owned = o.owned; uniform = λ z l h. e z l h ∙ o.uniform z l h }

-- the tile starts just there
pub next_at : {f : ℕ → ℕ} {t : Tile} → On f t → Next f t.corner t
next_at {t = t} o = record { after = le_refl _; blank = λ z l h. absurd (omega arith); on = o }

pub tiling_le : {f : ℕ → ℕ} {hi lo : ℕ} {ts : List Tile} → Tiling f hi lo ts → lo ≤ hi
tiling_le (none h b) = h
tiling_le (next {t = t} n r) = let h = tiling_le r in omega (arith, area_pos t.size)

pub tiling_blank : {f : ℕ → ℕ} {hi lo mid : ℕ} {ts : List Tile} → lo ≤ mid → Uniform f 0 lo mid → Tiling f hi mid ts → Tiling f hi lo ts
tiling_blank {lo = x} h b (none l c) = none {lo = x} (omega arith) (uniform_join b c)
tiling_blank {lo = x} h b (next {t = t} n r) = next {lo = x} {t = t} (record { after = omega arith; blank = uniform_join b n.blank; on = n.on }) r

pub tiling_append : {f : ℕ → ℕ} {hi mid lo : ℕ} {ts us : List Tile} → Tiling f mid lo ts → Tiling f hi mid us → Tiling f hi lo (ts ++ us)
tiling_append (none h b) s = tiling_blank h b s
tiling_append (next n r) s = next n (tiling_append r s)

-- a tile put between two tilings, and a tiling taken apart at a tile
pub tiling_insert : {f : ℕ → ℕ} {hi lo : ℕ} {a b : List Tile} {t : Tile} → Tiling f t.corner lo a → On f t → Tiling f hi (stop t) b → Tiling f hi lo (a ++ t ∷ b)
tiling_insert r o s = tiling_append r (next (next_at o) s)

pub tiling_split : {f : ℕ → ℕ} {hi lo : ℕ} (a : List Tile) {t : Tile} {b : List Tile} → Tiling f hi lo (a ++ t ∷ b) → Tiling f t.corner lo a × Tiling f hi t.corner (t ∷ b)
tiling_split [] (next n r) = (none n.after n.blank, next (next_at n.on) r)
tiling_split {lo = lo} (x ∷ a) (next n r) = let s = tiling_split {lo = stop x} a r in (next n s.0, s.1)

pub record Placed (f : ℕ → ℕ) (hi lo : ℕ) (t : Tile) : Type 0 where
  pub from : lo ≤ t.corner
  pub upto : stop t ≤ hi
  pub on : On f t

pub first_placed : {f : ℕ → ℕ} {hi lo : ℕ} {t : Tile} {ts : List Tile} → Next f lo t → Tiling f hi (stop t) ts → Placed f hi lo t
first_placed n r = record { from = n.after; upto = tiling_le r; on = n.on }

pub placed : {f : ℕ → ℕ} {hi lo : ℕ} {t : Tile} {ts : List Tile} → Tiling f hi lo ts → t ∈ ts → Placed f hi lo t
placed {f} {hi} {lo} (next {t = u} n r) (Memᴰ.head e) = rw e (first_placed n r)
placed {f} {hi} {lo} {t} (next {t = u} n r) (Memᴰ.tail m) =
    let p = placed r m in
    record { from = omega (arith, p.from, n.after); upto = p.upto; on = p.on }
placed {f = f} {hi = hi} {t = t} (none {lo = lo} _ _) x6 = elim x6 [ ]

-- a tiling cut where no tile lies: those of a end by x, and those of b start at y or behind
module _ {f : ℕ → ℕ} {hi : ℕ} (x y : ℕ) (xy : x ≤ y) (in-bed : y ≤ hi) {b : List Tile} (behind : (u : Tile) → u ∈ b → y ≤ u.corner) where
  pub tiling_cut : {lo : ℕ} (a : List Tile) → Tiling f hi lo (a ++ b) → lo ≤ x → ((u : Tile) → u ∈ a → stop u ≤ x) → Tiling f x lo a × Tiling f hi y b
  tiling_cut {lo} [] t l ahead = go t behind
    where
      go : {b : List Tile} → Tiling f hi lo b → ((u : Tile) → u ∈ b → y ≤ u.corner) → Tiling f x lo [] × Tiling f hi y b
      go (none h e) w = (none l (λ z p q. e z p (omega arith)), none in-bed (λ z p q. e z (omega arith) q))
      go (next {t = t} n r) w =
          let c = w t (Memᴰ.head refl) in
          (none l (λ z p q. n.blank z p (omega arith)), next {lo = y} {t = t} (record { after = c; blank = λ z p q. n.blank z (omega arith) q; on = n.on }) r)
  tiling_cut {lo = lo} (u ∷ a) (next n r) l ahead =
      let s = tiling_cut {lo = stop u} a r (ahead u (Memᴰ.head refl)) (λ v m. ahead v (Memᴰ.tail m)) in
      (next n s.0, s.1)

pub tiling_cong : {f g : ℕ → ℕ} {hi lo : ℕ} {ts : List Tile} → Tiling f hi lo ts → ((z : ℕ) → lo ≤ z → z < hi → g z ≡ f z) → Tiling g hi lo ts
tiling_cong (none h b) e = none h (λ z l k. e z l k ∙ b z l k)
tiling_cong {f} {g} {hi} {lo} (next {t = t} n r) e =
    let h = tiling_le r in
    let p = area_pos t.size in
    next {lo = lo} {t = t}
    (record { after = n.after; blank = λ z l k. e z l (omega arith) ∙ n.blank z l k; on = on_cong n.on (λ z l k. e z (omega (arith, n.after)) (omega arith)) })
    (tiling_cong r (λ z l k. e z (omega (arith, n.after)) k))
