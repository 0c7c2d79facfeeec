-- Valid lists changed by one tile or more, by membership alone.
--     valid_remove   a valid list stays valid when tiles are taken out of it
--     valid_insert   and when a tile is put in where it fits, if it does not complete four siblings
use mathlib.Core.Path.{◌≡◌, refl, ap, ap₂, sym, ◌∙◌}
use mathlib.Core.List.Memᴰ
use mathlib.Core.List.{List, [], ◌∷◌, ◌++◌, Sublistᴰ}
use mathlib.Core.Logic.{◌⊎◌, inl, inr}
use Prim.Native.Nat.{ℕ, zero, suc, ◌≤◌, ◌<◌}
use native.Mathlib.Omega.{arith}
use Rattle.tile.specs.declared.Tile.{Tile}
use Rattle.tile.specs.Tile.{stop}
use Rattle.quadtree.specs.Raster.{Aligned, ◌∈◌, Quadrant}
use Rattle.quadtree.specs.Valid.{Chain, end, link, quarter, Merged, Valid}
use Rattle.quadtree.proofs.Alignment.{area_pos}

chain_lower : {n lo mid : ℕ} {ts : List Tile} → lo ≤ mid → Chain n mid ts → Chain n lo ts
chain_lower h end = end
chain_lower {lo = lo} h (link {t = t} s r) = link {lo = lo} {t = t} (record { quadrant = s.quadrant; after = omega (arith, s.after) }) r

sublist_member : {us ts : List Tile} {t : Tile} → Sublistᴰ us ts → t ∈ us → t ∈ ts
sublist_member (Sublistᴰ.cons s) m = Memᴰ.tail (sublist_member s m)
sublist_member (Sublistᴰ.cons-cons e s) (Memᴰ.head p) = Memᴰ.head (p ∙ e)
sublist_member (Sublistᴰ.cons-cons e s) (Memᴰ.tail m) = Memᴰ.tail (sublist_member s m)
sublist_member {t = t} mathlib.Core.List.Sublistᴰ.slnil m = elim m [ ]

chain_sublist : {n lo : ℕ} {us ts : List Tile} → Sublistᴰ us ts → Chain n lo ts → Chain n lo us
chain_sublist Sublistᴰ.slnil c = end
chain_sublist {lo = lo} (Sublistᴰ.cons s) (link {t = t} p r) = chain_lower (omega (arith, p.after, area_pos t.size)) (chain_sublist {lo = stop t} s r)
chain_sublist (Sublistᴰ.cons-cons e s) (link p r) = rw e (link p (chain_sublist s r))

pub valid_remove : {n : ℕ} {us ts : List Tile} → Sublistᴰ us ts → Valid n ts → Valid n us
valid_remove s v = record { chain = chain_sublist s v.chain; merged = λ k a p m q. v.merged k a p m (λ i h. sublist_member s (q i h)) }

-- t lies behind the tiles of a and ahead of those of b
pub record Fits (n : ℕ) (a b : List Tile) (t : Tile) : Type 0 where
  pub quadrant : Quadrant n t
  pub behind : (u : Tile) → u ∈ a → stop u ≤ t.corner
  pub ahead : (u : Tile) → u ∈ b → stop t ≤ u.corner

-- with t the list has all four quarters of the block of size k + 1 at p
abbrev pub Completes : List Tile → Tile → List Tile → Type 0
Completes a t b = (p : ℕ) × Aligned (suc t.size) p × ((i : ℕ) → i < 4 → quarter t.size t.account p i ∈ (a ++ t ∷ b))

chain_first : {n lo hi : ℕ} {b : List Tile} → Chain n lo b → ((u : Tile) → u ∈ b → hi ≤ u.corner) → Chain n hi b
chain_first end h = end
chain_first {hi = hi} (link {t = t} s r) h = link {lo = hi} {t = t} (record { quadrant = s.quadrant; after = h t (Memᴰ.head refl) }) r

chain_insert : {n lo : ℕ} (a : List Tile) {b : List Tile} {t : Tile} → Chain n lo (a ++ b) → lo ≤ t.corner → Fits n a b t → Chain n lo (a ++ t ∷ b)
chain_insert [] {t = t} c l f = link {t = t} (record { quadrant = f.quadrant; after = l }) (chain_first c f.ahead)
chain_insert {lo = lo} (x ∷ a) (link s r) l f = link s (chain_insert {lo = stop x} a r (f.behind x (Memᴰ.head refl)) (record { quadrant = f.quadrant; behind = λ u m. f.behind u (Memᴰ.tail m); ahead = f.ahead }))

-- a tile of the longer list is t or one of the others
member_cases : (a b : List Tile) {t x : Tile} → x ∈ (a ++ t ∷ b) → (x ≡ t) ⊎ (x ∈ (a ++ b))
member_cases a b m = elim (Memᴰ.append_cases a m) [
  | inl l ↦ inr (Memᴰ.append_left b l)
  | inr r ↦ elim (Memᴰ.cases_cons r) [ inl e ↦ inl e | inr k ↦ inr (Memᴰ.append_right a k) ]
]

-- either one of the four is t, or all four are among the others
four_cases : {P Q : ℕ → Type 0} → ((i : ℕ) → i < 4 → P i ⊎ Q i) → ((i : ℕ) × (i < 4) × P i) ⊎ ((i : ℕ) → i < 4 → Q i)
four_cases {P} {Q} h = go (h 0 (omega arith)) (h 1 (omega arith)) (h 2 (omega arith)) (h 3 (omega arith))
  where
    all : Q 0 → Q 1 → Q 2 → Q 3 → (i : ℕ) → i < 4 → Q i
    all a b c d zero l = a
    all a b c d (suc zero) l = b
    all a b c d (suc (suc zero)) l = c
    all a b c d (suc (suc (suc zero))) l = d
    all a b c d (suc (suc (suc (suc i)))) l = absurd (omega arith)

    go : P 0 ⊎ Q 0 → P 1 ⊎ Q 1 → P 2 ⊎ Q 2 → P 3 ⊎ Q 3 → ((i : ℕ) × (i < 4) × P i) ⊎ ((i : ℕ) → i < 4 → Q i)
    go (inl p) b c d = inl (0, omega arith, p)
    go (inr a) (inl p) c d = inl (1, omega arith, p)
    go (inr a) (inr b) (inl p) d = inl (2, omega arith, p)
    go (inr a) (inr b) (inr c) (inl p) = inl (3, omega arith, p)
    go (inr a) (inr b) (inr c) (inr d) = inr (all a b c d)

merged_insert : (a b : List Tile) (t : Tile) → Merged (a ++ b) → (Completes a t b → ⊥) → Merged (a ++ t ∷ b)
merged_insert a b t m none k v p al q = elim (four_cases (λ i h. member_cases a b (q i h))) [
  | inl w ↦
      let s : k ≡ t.size = ap (λ (x : Tile). x.size) w.2 in
      let e : v ≡ t.account = ap (λ (x : Tile). x.account) w.2 in
      none (p, rw (← s) al, λ i h. Memᴰ.cast (ap₂ (λ (k a : ℕ). quarter k a p i) (sym s) (sym e)) (q i h))
  | inr r ↦ m k v p al r
]

pub valid_insert : {n : ℕ} {a b : List Tile} {t : Tile} → Valid n (a ++ b) → Fits n a b t → (Completes a t b → ⊥) → Valid n (a ++ t ∷ b)
valid_insert {a = a} {b = b} {t = t} v f none = record { chain = chain_insert a v.chain (omega arith) f; merged = merged_insert a b t v.merged none }
