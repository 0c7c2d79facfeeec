-- Four siblings in a row. `Valid` says by membership that no four siblings are in a list; proofs by recursion want them next to each other.
--     Follows t u             u starts where t ends, and has its size and account
--     Siblings t u v w        the four quadrants of one block, in their order, of one account
--     same_tile               two tiles of one corner, size and account are the same
--     siblings_quarters       siblings are the quarters of a block
--     Four t ts, NoFour ts    t and the first three of ts are siblings; no four tiles in a row are
--     no_four_left, -right    no four in a row of two lists joined: then of neither
--     merged_no_four          a merged list has no four in a row
--     no_four_merged          a chain that has no four in a row is merged
use mathlib.Core.Path.{◌≡◌, refl, ap, sym}
use mathlib.Core.List.Memᴰ
use mathlib.Core.List.{List, [], ◌∷◌, ◌++◌}
use mathlib.Core.Logic.{inl, inr}
use Prim.Native.Nat.{ℕ, zero, suc, ◌+◌, ◌*◌, ◌^◌, ◌≤◌, ◌<◌}
use native.Mathlib.Omega.{arith}
use native.Mathlib.Nat.{le_refl, mul-le-mul_right}
use Rattle.tile.specs.declared.Tile.{Tile}
use Rattle.tile.specs.Tile.{tile, stop}
use Rattle.quadtree.specs.Raster.{Aligned, ◌∈◌}
use Rattle.quadtree.specs.Valid.{Chain, end, link, quarter, Merged}
use Rattle.quadtree.proofs.Alignment.{area_pos}
use Rattle.quadtree.proofs.Chains.{chain_from}

abbrev pub Follows : Tile → Tile → Type 0
Follows t u = u ≡ tile (stop t) t.size t.account

pub record Siblings (t u v w : Tile) : Type 0 where
  pub aligned : Aligned (suc t.size) t.corner
  pub second : Follows t u
  pub third : Follows u v
  pub fourth : Follows v w

abbrev pub Four : Tile → List Tile → Type 0
Four t [] = ⊥
Four t (u ∷ []) = ⊥
Four t (u ∷ v ∷ []) = ⊥
Four t (u ∷ v ∷ w ∷ ts) = Siblings t u v w

abbrev pub NoFour : List Tile → Type 0
NoFour [] = Unit {0}
NoFour (t ∷ ts) = (Four t ts → ⊥) × NoFour ts

pub no_four_left : (a b : List Tile) → NoFour (a ++ b) → NoFour a
no_four_left [] b h = tt
no_four_left (x ∷ a) b h = (λ g. h.0 (longer x a g), no_four_left a b h.1)
  where
    longer : (x : Tile) (a : List Tile) → Four x a → Four x (a ++ b)
    longer x [] g = absurd g
    longer x (y ∷ []) g = absurd g
    longer x (y ∷ z ∷ []) g = absurd g
    longer x (y ∷ z ∷ w ∷ a) g = g

pub no_four_right : (a b : List Tile) → NoFour (a ++ b) → NoFour b
no_four_right [] b h = h
no_four_right (x ∷ a) b h = no_four_right a b h.1

-- the numbers of a tile that follows
pub record Followed (t u : Tile) : Type 0 where
  pub size : u.size ≡ t.size
  pub account : u.account ≡ t.account
  pub corner : u.corner ≡ t.corner + 4 ^ t.size
  pub area : 4 ^ u.size ≡ 4 ^ t.size

pub followed : {t u : Tile} → Follows t u → Followed t u
followed e = record { size = ap (λ (x : Tile). x.size) e; account = ap (λ (x : Tile). x.account) e; corner = ap (λ (x : Tile). x.corner) e; area = ap (λ (x : Tile). 4 ^ x.size) e }

pub siblings_stop : {t u v w : Tile} → Siblings t u v w → stop w ≡ t.corner + 4 ^ suc t.size
siblings_stop b = omega (arith, followed b.second, followed b.third, followed b.fourth)

-- the quarters of a block are siblings, and siblings are the quarters of a block
quarters : (k a p : ℕ) → Aligned (suc k) p → Siblings (quarter k a p 0) (quarter k a p 1) (quarter k a p 2) (quarter k a p 3)
quarters k a p m =
    let z : p + 0 * 4 ^ k ≡ p = omega arith in
    record { aligned = rw z m; second = move (omega arith); third = move (omega arith); fourth = move (omega arith) }
  where
    move : {c d : ℕ} → c ≡ d → tile c k a ≡ tile d k a
    move e = ap (λ (c : ℕ). tile c k a) e

-- two tiles of one size and account are the same if their corners are
pub same_tile : {t u : Tile} → u.corner ≡ t.corner → u.size ≡ t.size → u.account ≡ t.account → u ≡ t
same_tile p q r = λ i. record { corner = p i; size = q i; account = r i }

pub record Quarters (t u v w : Tile) : Type 0 where
  pub first : t ≡ quarter t.size t.account t.corner 0
  pub second : u ≡ quarter t.size t.account t.corner 1
  pub third : v ≡ quarter t.size t.account t.corner 2
  pub fourth : w ≡ quarter t.size t.account t.corner 3

pub siblings_quarters : {t u v w : Tile} → Siblings t u v w → Quarters t u v w
siblings_quarters b =
    let e = followed b.second in
    let f = followed b.third in
    let g = followed b.fourth in
    record {
      first = same_tile (omega arith) refl refl;
      second = same_tile (omega arith) (omega arith) (omega arith);
      third = same_tile (omega arith) (omega arith) (omega arith);
      fourth = same_tile (omega arith) (omega arith) (omega arith);
    }

sibling_quarter : {t u v w : Tile} → Siblings t u v w → (ts : List Tile) (i : ℕ) → i < 4 → quarter t.size t.account t.corner i ∈ (t ∷ u ∷ v ∷ w ∷ ts)
sibling_quarter {t} b ts zero h = Memᴰ.head {x = t} (same_tile (omega arith) refl refl)
sibling_quarter {t} {u} b ts (suc zero) h =
    let e = followed b.second in
    Memᴰ.tail (Memᴰ.head {x = u} (same_tile (omega arith) (omega arith) (omega arith)))
sibling_quarter {t} {u} {v} b ts (suc (suc zero)) h =
    let e = followed b.second in
    let f = followed b.third in
    Memᴰ.tail (Memᴰ.tail (Memᴰ.head {x = v} (same_tile (omega arith) (omega arith) (omega arith))))
sibling_quarter {t} {u} {v} {w} b ts (suc (suc (suc zero))) h =
    let e = followed b.second in
    let f = followed b.third in
    let g = followed b.fourth in
    Memᴰ.tail (Memᴰ.tail (Memᴰ.tail (Memᴰ.head {x = w} (same_tile (omega arith) (omega arith) (omega arith)))))
sibling_quarter b ts (suc (suc (suc (suc i)))) h = absurd (omega arith)

merged_first : {t : Tile} (ts : List Tile) → Merged (t ∷ ts) → Four t ts → ⊥
merged_first [] m b = b
merged_first (u ∷ []) m b = b
merged_first (u ∷ v ∷ []) m b = b
merged_first {t} (u ∷ v ∷ w ∷ ts) m b = m t.size t.account t.corner b.aligned (sibling_quarter b ts)

pub merged_no_four : (ts : List Tile) → Merged ts → NoFour ts
merged_no_four [] m = tt
merged_no_four (t ∷ ts) m = (merged_first ts m, merged_no_four ts (λ k a p al q. m k a p al (λ i h. Memᴰ.tail (q i h))))

-- where a chain from lo on has a tile that starts at lo, it is the first
record Starts (n : ℕ) (x : Tile) (ts : List Tile) : Type 0 where
  rest : List Tile
  is : ts ≡ x ∷ rest
  chain : Chain n (stop x) rest

starts : {n lo : ℕ} {x : Tile} {ts : List Tile} → Chain n lo ts → x ∈ ts → x.corner ≡ lo → Starts n x ts
starts (link {ts = ts} s r) (Memᴰ.head e) h = record { rest = ts; is = ap (λ (y : Tile). y ∷ ts) (sym e); chain = rw e r }
starts (link {t = u} s r) (Memᴰ.tail m) h = absurd (omega (arith, chain_from r m, s.after, area_pos u.size))
starts {n = n} {lo = lo} end x8 h = elim x8 [ ]

-- a tile that is not the first is in the rest
later : {x y : Tile} {ts : List Tile} → x ∈ (y ∷ ts) → y.corner < x.corner → x ∈ ts
later {x} {y} {ts} m h = elim (Memᴰ.cases_cons m) [ inl e ↦ absurd (omega (arith, ap (λ (t : Tile). t.corner) e)) | inr k ↦ k ]

module _ (n k a p : ℕ) (al : Aligned (suc k) p) where
  -- the first of four siblings heads the chain: then the others stand behind it, one after the other
  row_of_four : {lo : ℕ} {ts : List Tile} → Chain n lo ts → lo ≡ p → ((i : ℕ) → i < 4 → quarter k a p i ∈ ts) → NoFour ts → ⊥
  row_of_four {lo} {ts} c e q nf = d0 (starts c (q 0 (omega arith)) (omega arith))
    where
      behind : (i j : ℕ) → i < j → (quarter k a p i).corner < (quarter k a p j).corner
      behind i j h = let g : suc i * 4 ^ k ≤ j * 4 ^ k = mul-le-mul_right (4 ^ k) h in omega (arith, area_pos k)

      d3 : (s0 : Starts n (quarter k a p 0) ts) (s1 : Starts n (quarter k a p 1) s0.rest) (s2 : Starts n (quarter k a p 2) s1.rest) → Starts n (quarter k a p 3) s2.rest → ⊥
      d3 s0 s1 s2 s3 = (rw (s0.is, s1.is, s2.is, s3.is) at nf).0 (quarters k a p al)

      d2 : (s0 : Starts n (quarter k a p 0) ts) (s1 : Starts n (quarter k a p 1) s0.rest) → Starts n (quarter k a p 2) s1.rest → ⊥
      d2 s0 s1 s2 =
          let m1 = later (rw s0.is at (q 3 (omega arith))) (behind 0 3 (omega arith)) in
          let m2 = later (rw s1.is at m1) (behind 1 3 (omega arith)) in
          d3 s0 s1 s2 (starts s2.chain (later (rw s2.is at m2) (behind 2 3 (omega arith))) (omega arith))

      d1 : (s0 : Starts n (quarter k a p 0) ts) → Starts n (quarter k a p 1) s0.rest → ⊥
      d1 s0 s1 =
          let m1 = later (rw s0.is at (q 2 (omega arith))) (behind 0 2 (omega arith)) in
          d2 s0 s1 (starts s1.chain (later (rw s1.is at m1) (behind 1 2 (omega arith))) (omega arith))

      d0 : Starts n (quarter k a p 0) ts → ⊥
      d0 s0 = d1 s0 (starts s0.chain (later (rw s0.is at (q 1 (omega arith))) (behind 0 1 (omega arith))) (omega arith))

  none_of_four : {lo : ℕ} {ts : List Tile} → Chain n lo ts → ((i : ℕ) → i < 4 → quarter k a p i ∈ ts) → NoFour ts → ⊥
  none_of_four end q nf = Memᴰ.not-nil (q 0 (omega arith))
  none_of_four (link {t = t} {ts = ts} s r) q nf = elim (Memᴰ.cases_cons (q 0 (omega arith))) [
    | inl e ↦ row_of_four (link {lo = t.corner} (record { quadrant = s.quadrant; after = le_refl _ }) r) (omega (arith, ap (λ (x : Tile). x.corner) e)) q nf
    | inr m ↦ none_of_four r (λ i h. later (q i h) (omega (arith, chain_from r m, area_pos t.size))) nf.1
  ]

pub no_four_merged : {n lo : ℕ} {ts : List Tile} → Chain n lo ts → NoFour ts → Merged ts
no_four_merged {n} c nf k a p al q = none_of_four n k a p al c q nf
