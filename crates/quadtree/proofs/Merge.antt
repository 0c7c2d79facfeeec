-- Merging: a tile put into a list goes together with its siblings there, on both sides of it and over as many levels as fit.
--     between_merge         where t's three siblings stand next to it, the four can be dropped for their parent
--     between_quadtree      where they do not all stand there (`Apart`), a, t and b are the linear quadtree of g
--     Places a t b ts       ts is what merging t while possible, and then inserting it between a and b, gives
--     places_quadtree       and that is the linear quadtree of g
--     places_painted        of a valid list and a tile that fits into it, the linear quadtree of what it showed with the tile painted on it
use mathlib.Core.Path.{◌≡◌, refl, ap}
use mathlib.Core.List.{List, [], ◌∷◌, ◌++◌, append-nil}
use Prim.Native.Nat.{ℕ, zero, suc, ◌+◌, ◌*◌, ◌^◌}
use native.Mathlib.Omega.{arith}
use lib.ListN.{length}
use Rattle.tile.specs.declared.Tile.{Tile}
use Rattle.tile.specs.Tile.{tile, stop}
use Rattle.quadtree.specs.Raster.{Aligned, Covers, Uniform, account_at, paint, Quadrant}
use Rattle.quadtree.specs.Quadtree.{quadtree}
use Rattle.quadtree.specs.Valid.{Valid}
use Rattle.quadtree.proofs.Tiling.{Tiling, next, uniform_join, tiling_split, tiling_insert, tiling_cut, tiling_cong}
use Rattle.quadtree.proofs.Shown.{paint_in, paint_out}
use Rattle.quadtree.proofs.Chains.{quadrant_stop}
use Rattle.quadtree.proofs.Siblings.{Siblings, Four, NoFour, no_four_left, no_four_right}
use Rattle.quadtree.proofs.ValidLaws.{tiling_quadtree, valid_tiling, valid_no_four}
use Rattle.quadtree.proofs.Change.{Fits}
use Rattle.quadtree.specs.Tiling.{equal_tiles, Between, Apart}

pub equal_tiles_length : (k a m c : ℕ) → length (equal_tiles k a m c) ≡ m
unfolding equal_tiles
equal_tiles_length k a zero c = refl
equal_tiles_length k a (suc m) c = ap suc (equal_tiles_length k a m (c + 4 ^ k))

-- equal tiles at the front of a tiling, and at its end
pub equal_tiles_front : {f : ℕ → ℕ} {hi : ℕ} (k a m c e : ℕ) (r : List Tile) → e ≡ c + m * 4 ^ k → Tiling f hi c (equal_tiles k a m c ++ r) → Uniform f a c e × Tiling f hi e r
unfolding equal_tiles
equal_tiles_front k a zero c e r q t = (λ z l h. omega arith, let p : e ≡ c = omega arith in rw p t)
equal_tiles_front k a (suc m) c e r q (next n t) = let p = equal_tiles_front k a m (c + 4 ^ k) e r (omega arith) t in (uniform_join n.on.uniform p.0, p.1)

pub equal_tiles_back : {f : ℕ → ℕ} {lo : ℕ} (k a m c e : ℕ) (h : List Tile) → e ≡ c + m * 4 ^ k → Tiling f e lo (h ++ equal_tiles k a m c) → Tiling f c lo h × Uniform f a c e
unfolding equal_tiles
equal_tiles_back {f} {lo} k a zero c e h q t = (let p : e ≡ c = omega arith in rw (append-nil, p) at t, λ z l g. omega arith)
equal_tiles_back {f} {lo} k a (suc m) c e h q t =
    let s = tiling_split h t in
    (s.0, (equal_tiles_front {f = f} {hi = e} k a (suc m) c e [] q (rw append-nil s.1)).0)

pub between_merge : {g : ℕ → ℕ} {n : ℕ} (h r : List Tile) (k a i j c p : ℕ) → i + j ≡ 3 → c ≡ p + i * 4 ^ k → Aligned (suc k) p →
    Between g n (h ++ equal_tiles k a i p) (equal_tiles k a j (c + 4 ^ k) ++ r) (tile c k a) → Between g n h r (tile p (suc k) a)
between_merge {g} {n} h r k a i j c p ij e m t = go (equal_tiles_back k a i p c h e t.ahead) (equal_tiles_front k a j (c + 4 ^ k) (p + 4 ^ suc k) r q t.rest)
  where
    q : p + 4 ^ suc k ≡ c + 4 ^ k + j * 4 ^ k
    q = let x : (i + j) * 4 ^ k ≡ 3 * 4 ^ k = ap (λ (y : ℕ). y * 4 ^ k) ij in omega arith

    go : Tiling g p 0 h × Uniform g a p c → Uniform g a (c + 4 ^ k) (p + 4 ^ suc k) × Tiling g (4 ^ n) (p + 4 ^ suc k) r → Between g n h r (tile p (suc k) a)
    go x y = record { ahead = x.0; rest = y.1; on = record { aligned = m; owned = t.on.owned; uniform = uniform_join x.1 (uniform_join t.on.uniform y.0) } }

apart_tail : (x t : Tile) (a b : List Tile) → Apart (x ∷ a) b t → Apart a b t
apart_tail x t a b g j p h r l m e ea eb = g j p (x ∷ h) r l m e (ap (λ (y : List Tile). x ∷ y) ea) eb

-- t as the first, second, third and fourth of four siblings
module _ (b : List Tile) (t : Tile) (nb : NoFour b) where
  first : (b : List Tile) → Apart [] b t → Four t b → ⊥
  unfolding equal_tiles
  first [] g f = f
  first (u ∷ []) g f = f
  first (u ∷ v ∷ []) g f = f
  first (u ∷ v ∷ w ∷ r) g f = g 0 t.corner [] r (omega arith) f.aligned (omega arith) refl (rw (f.fourth, f.third, f.second))

  second : (x : Tile) (b : List Tile) → Apart (x ∷ []) b t → Four x (t ∷ b) → ⊥
  unfolding equal_tiles
  second x [] g f = f
  second x (u ∷ []) g f = f
  second x (u ∷ v ∷ r) g f = g 1 x.corner [] r (omega arith) (rw f.second f.aligned) (rw f.second (omega arith)) (rw f.second) (rw (f.fourth, f.third))

  third : (x y : Tile) (b : List Tile) → Apart (x ∷ y ∷ []) b t → Four x (y ∷ t ∷ b) → ⊥
  unfolding equal_tiles
  third x y [] g f = f
  third x y (u ∷ r) g f = g 2 x.corner [] r (omega arith) (rw (f.third, f.second) f.aligned) (rw (f.third, f.second) (omega arith)) (rw (f.third, f.second)) (rw f.fourth)

  fourth : (x y z : Tile) (b : List Tile) → Apart (x ∷ y ∷ z ∷ []) b t → Siblings x y z t → ⊥
  unfolding equal_tiles
  fourth x y z b g f = g 3 x.corner [] b (omega arith) (rw (f.fourth, f.third, f.second) f.aligned) (rw (f.fourth, f.third, f.second) (omega arith)) (rw (f.fourth, f.third, f.second)) refl

  ahead_four : (x : Tile) (a : List Tile) → (Four x a → ⊥) → Apart (x ∷ a) b t → Four x (a ++ t ∷ b) → ⊥
  ahead_four x [] h g f = second x b g f
  ahead_four x (y ∷ []) h g f = third x y b g f
  ahead_four x (y ∷ z ∷ []) h g f = fourth x y z b g f
  ahead_four x (y ∷ z ∷ w ∷ a) h g f = h f

  pub apart_no_four : (a : List Tile) → NoFour a → Apart a b t → NoFour (a ++ t ∷ b)
  apart_no_four [] h g = (first b g, nb)
  apart_no_four (x ∷ a) h g = (ahead_four x a h.0 g, apart_no_four a h.1 (apart_tail x t a b g))

pub between_tiling : {g : ℕ → ℕ} {n : ℕ} {a b : List Tile} {t : Tile} → Between g n a b t → Tiling g (4 ^ n) 0 (a ++ t ∷ b)
between_tiling h = tiling_insert h.ahead h.on h.rest

pub between_quadtree : {g : ℕ → ℕ} {n : ℕ} {a b : List Tile} {t : Tile} → Between g n a b t → NoFour a → NoFour b → Apart a b t → a ++ t ∷ b ≡ quadtree n g
between_quadtree {g} {n} {a} {b} {t} h na nb q = tiling_quadtree n g (between_tiling h) (apart_no_four b t nb a na q)

pub data Places : List Tile → Tile → List Tile → List Tile → Type 0 where
  insert : {a b : List Tile} {t : Tile} → Apart a b t → Places a t b (a ++ t ∷ b)
  merge : {a b h r ts : List Tile} (k v i j c p : ℕ) → a ≡ h ++ equal_tiles k v i p → b ≡ equal_tiles k v j (c + 4 ^ k) ++ r →
      i + j ≡ 3 → c ≡ p + i * 4 ^ k → Aligned (suc k) p → Places h (tile p (suc k) v) r ts → Places a (tile c k v) b ts

pub places_quadtree : {g : ℕ → ℕ} {n : ℕ} {a b ts : List Tile} {t : Tile} → Places a t b ts → Between g n a b t → NoFour a → NoFour b → ts ≡ quadtree n g
places_quadtree (insert q) w na nb = between_quadtree w na nb q
places_quadtree {g} {n} (merge {h = h} {r = r} k v i j c p ea eb ij e m s) w na nb =
    places_quadtree s (between_merge h r k v i j c p ij e m (rw (ea, eb) at w)) (no_four_left h (equal_tiles k v i p) (rw ea at na)) (no_four_right (equal_tiles k v j (c + 4 ^ k)) r (rw eb at nb))

-- a tile that fits into a valid list, merged and put there: the result is valid, shows the tile's account on it, and elsewhere what the list showed
fits_between : {n : ℕ} {a b : List Tile} {t : Tile} → Valid n (a ++ b) → Fits n a b t → Between (paint (account_at (a ++ b)) t.corner (stop t) t.account) n a b t
fits_between {n} {a} {b} {t} v f = go (tiling_cut t.corner (stop t) (omega arith) (quadrant_stop q) f.ahead a (valid_tiling v) (omega arith) f.behind)
  where
    q : Quadrant n t
    q = f.quadrant

    g : ℕ → ℕ
    g = paint (account_at (a ++ b)) t.corner (stop t) t.account

    out : (z : ℕ) → (Covers t z → ⊥) → g z ≡ account_at (a ++ b) z
    out z h = paint_out (account_at (a ++ b)) t.corner (stop t) t.account z h

    go : Tiling (account_at (a ++ b)) t.corner 0 a × Tiling (account_at (a ++ b)) (4 ^ n) (stop t) b → Between g n a b t
    go s = record {
      ahead = tiling_cong s.0 (λ z l h. out z (λ c. omega (arith, c.0)));
      rest = tiling_cong s.1 (λ z l h. out z (λ c. omega (arith, c.1)));
      on = record { aligned = q.aligned; owned = q.owned; uniform = λ z l h. paint_in (account_at (a ++ b)) t.corner (stop t) t.account z l h };
    }

pub places_painted : {n : ℕ} {a b ts : List Tile} {t : Tile} → Valid n (a ++ b) → Fits n a b t → Places a t b ts → ts ≡ quadtree n (paint (account_at (a ++ b)) t.corner (stop t) t.account)
places_painted {a = a} {b = b} v f p = places_quadtree p (fits_between v f) (no_four_left a b (valid_no_four v)) (no_four_right a b (valid_no_four v))
