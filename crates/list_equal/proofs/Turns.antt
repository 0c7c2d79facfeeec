-- The turns of the loops over equal tiles that begin with the tile t: j of them are done, and the next is e.
--     Along t m j e      the next tile, of m; along_start, _room, _next: its turns
--     Reading t s j e    what is left to compare decides; read_none, _more, _other, _all: its turns
--     Writing t b s j e  what is left to write makes b of the slots s; write_none, _more, _all: its turns
use mathlib.Core.Path.{◌≡◌, ◌∙◌, refl, sym}
use mathlib.Core.Bool.{Bool, true, false, not, ◌&&◌}
use mathlib.Core.Logic.{◌↔◌}
use mathlib.Core.List.{List, [], ◌∷◌, ◌++◌, map, append_assoc}
use Prim.Native.Nat.{ℕ, suc, ◌+◌, ◌-◌, ◌*◌, ◌^◌, ◌≤◌, ◌<◌}
use native.Mathlib.Omega.{arith}
use native.Mathlib.Nat.{mul-le-mul_right}
use native.Mathlib.Numerals.{add-one}
use lib.Dec.{eqb}
use lib.ListN.{length, take, drop, get_or, set, length-set}
use lib.Seq.{drop-cons, take-suc-set}
use Rattle.std.proofs.lemmas.List.{append-nil, drop_all, take_all}
use Rattle.basics.proofs.Tests.{Test, holds, fails, test_eqb, test_and, test_map}
use Rattle.tile.specs.declared.Tile.{Tile}
use Rattle.tile.specs.Tile.{tile, tile_of, word_of}
use Rattle.quadtree.proofs.Alignment.{area_pos}
use Rattle.quadtree.specs.Tiling.{equal_tiles}

pub record Along (t : Tile) (m j : ℕ) (e : Tile) : Type 0 where
  pub count : j ≤ m
  pub size : e.size ≡ t.size
  pub account : e.account ≡ t.account
  pub corner : e.corner ≡ t.corner + j * 4 ^ t.size

pub along_start : (t : Tile) (m : ℕ) → Along t m 0 t
along_start t m = record { count = omega arith; size = refl; account = refl; corner = omega arith }

abbrev pub behind : Tile → Tile
behind e = tile (e.corner + 4 ^ e.size) e.size e.account

module _ {t e : Tile} {m j : ℕ} (w : Along t m j e) (h : j < m) where
  pub along_room : e.corner + 4 ^ e.size ≤ t.corner + m * 4 ^ t.size
  along_room = let p : suc j * 4 ^ t.size ≤ m * 4 ^ t.size = mul-le-mul_right (4 ^ t.size) h in rw w.size (omega (arith, w.corner))

  pub along_below : e.corner < t.corner + m * 4 ^ t.size
  along_below = omega (arith, along_room, area_pos e.size)

  pub along_next : Along t m (j + 1) (behind e)
  along_next = record { count = omega arith; size = w.size; account = w.account; corner = rw w.size (omega (arith, w.corner)) }

-- these words are the equal tiles that begin with t
abbrev pub AreEqual : Tile → List ℕ → Type 0
AreEqual t s = map tile_of s ≡ equal_tiles t.size t.account (length s) t.corner

head_tail : (e : Tile) (u : ℕ) (s : List ℕ) → AreEqual e (u ∷ s) ↔ ((tile_of u ≡ e) × AreEqual (behind e) s)
unfolding equal_tiles
head_tail e u s = (λ p. (cc, cc), λ p i. p.0 i ∷ p.1 i)

same : (a b : Tile) → Test (a ≡ b) (eqb a.corner b.corner && (eqb a.size b.size && eqb a.account b.account))
same a b = test_map (λ p i. record { corner = p.0 i; size = p.1.0 i; account = p.1.1 i }) (λ p. (cc, (cc, cc))) (test_and (test_eqb a.corner b.corner) (test_and (test_eqb a.size b.size) (test_eqb a.account b.account)))

module _ (a b : Tile) {r : Bool} (is : r ≡ not (eqb a.corner b.corner && (eqb a.size b.size && eqb a.account b.account))) where
  pub tiles_differ : r ≡ true → a ≡ b → ⊥
  tiles_differ h e = go (same a b) (sym is ∙ h)
    where
      go : {d : Bool} → Test (a ≡ b) d → not d ≡ true → ⊥
      go (holds p) q = cc
      go (fails p) q = p e

  pub tiles_same : r ≡ false → a ≡ b
  tiles_same h = go (same a b) (sym is ∙ h)
    where
      go : {d : Bool} → Test (a ≡ b) d → not d ≡ false → a ≡ b
      go (holds p) q = p
      go (fails p) q = absurd (cc)

pub record Reading (t : Tile) (s : List ℕ) (j : ℕ) (e : Tile) : Type 0 where
  pub along : Along t (length s) j e
  pub left : AreEqual t s ↔ AreEqual e (drop j s)

pub read_none : (t : Tile) (s : List ℕ) → Reading t s 0 t
read_none t s = record { along = along_start t (length s); left = (λ y. y, λ y. y) }

module _ {t e : Tile} {s : List ℕ} {j : ℕ} (w : Reading t s j e) where
  pub read_all : length s ≤ j → Test (AreEqual t s) true
  unfolding equal_tiles
  read_all h = let e = drop_all j s h in holds (w.left.1 (rw e))

  -- the word u at j
  module _ (h : j < length s) (u : ℕ) (eu : u ≡ get_or s j 0) where
    turn : AreEqual e (drop j s) ↔ ((tile_of u ≡ e) × AreEqual (behind e) (drop (j + 1) s))
    turn = rw (add-one j, drop-cons s j 0 h, ← eu) (head_tail e u (drop (suc j) s))

    pub read_more : tile_of u ≡ e → (area : ℕ) → area ≡ 4 ^ t.size → Reading t s (j + 1) (tile (e.corner + area) e.size e.account)
    read_more q area is = let g : area ≡ 4 ^ e.size = rw w.along.size is in rw g (record {
      along = along_next w.along h;
      left = (λ p. (turn.0 (w.left.0 p)).1, λ p. w.left.1 (turn.1 (q, p)));
    })

    pub read_other : (tile_of u ≡ e → ⊥) → Test (AreEqual t s) false
    read_other ne = fails (λ p. ne (turn.0 (w.left.0 p)).0)

pub record Writing (t : Tile) (b s : List ℕ) (j : ℕ) (e : Tile) : Type 0 where
  pub along : Along t (length s) j e
  pub left : b ≡ take j s ++ map word_of (equal_tiles e.size e.account (length s - j) e.corner)

pub write_none : (t : Tile) (s : List ℕ) → Writing t (map word_of (equal_tiles t.size t.account (length s) t.corner)) s 0 t
write_none t s = let e : length s - 0 ≡ length s = omega arith in record { along = along_start t (length s); left = rw e }

module _ {t e : Tile} {b s : List ℕ} {j : ℕ} (w : Writing t b s j e) where
  pub write_more : j < length s → (area : ℕ) → area ≡ 4 ^ t.size → Writing t b (set s j (word_of e)) (j + 1) (tile (e.corner + area) e.size e.account)
  unfolding equal_tiles
  write_more h area is =
      let p : length s - j ≡ suc (length s - (j + 1)) = omega arith in
      let g : area ≡ 4 ^ e.size = rw w.along.size is in rw g (record {
        along = rw length-set (along_next w.along h);
        left = w.left ∙ rw (p, length-set, add-one, take-suc-set s j (word_of e) h, append_assoc (take j s) (word_of e ∷ []));
      })

  pub write_all : length s ≤ j → s ≡ b
  unfolding equal_tiles
  write_all h =
      let p : length s - j ≡ 0 = omega arith in
      let e = take_all j s h in sym (w.left ∙ rw (p, e) (append-nil s))
