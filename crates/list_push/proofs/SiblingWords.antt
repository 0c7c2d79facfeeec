-- The three siblings ahead of a tile, as the last three of the first words of a list.
--     three_not    one of the words is another: they are not the siblings
--     three_last   two are as they must be: the third decides
use mathlib.Core.Path.{◌≡◌, ◌∙◌, refl, ap, sym}
use mathlib.Core.Bool.{Bool, true, false}
use mathlib.Core.List.{List, [], ◌∷◌, ◌++◌, append_assoc, map-append, reverse, reverse-append}
use Prim.Native.Nat.{ℕ, suc, ◌+◌, ◌-◌, ◌*◌, ◌^◌, ◌≤◌}
use native.Mathlib.Omega.{arith}
use lib.Dec.{eqb}
use lib.ListN.{length, take, get_or}
use lib.Seq.{take-suc}
use Rattle.basics.proofs.Tests.{Test, holds, fails, test_eqb}
use Rattle.tile.specs.declared.Tile.{Tile}
use Rattle.tile.specs.Tile.{tile, stop, tile_of, word_of}
use Rattle.tile.specs.Slots.{tiles}
use Rattle.tile.proofs.TileLaws.{tile_word, word_tile}
use Rattle.quadtree.specs.Tiling.{equal_tiles}
use Rattle.list_push.specs.Merging.{EndsWith, Room, Three}

pub true_false : true ≡ false → ⊥
true_false e = let z : ◌≡◌ {A = ℕ} 0 1 = cc in omega arith

last_tile : (s : List ℕ) (i j : ℕ) → i ≡ suc j → i ≤ length s → tiles (take i s) ≡ tiles (take j s) ++ tile_of (get_or s j 0) ∷ []
last_tile s i j e h = rw (e, take-suc s j 0 (omega arith)) (map-append tile_of (take j s) (get_or s j 0 ∷ []))

-- what two lists end with
same_end : (a b : List Tile) (x y z u v w : Tile) → a ++ x ∷ y ∷ z ∷ [] ≡ b ++ u ∷ v ∷ w ∷ [] → (x ≡ u) × (y ≡ v) × (z ≡ w)
same_end a b x y z u v w e =
    let q : z ∷ y ∷ x ∷ reverse a ≡ w ∷ v ∷ u ∷ reverse b = sym (reverse-append a (x ∷ y ∷ z ∷ [])) ∙ ap reverse e ∙ reverse-append b (u ∷ v ∷ w ∷ []) in
    (cc, cc, cc)

module _ {s : List ℕ} {i : ℕ} (t : Tile) (room : Room s i (stop t) t.size t.account) where
  -- the word of the tile that stands j of its areas ahead of t
  abbrev word : ℕ → ℕ
  word j = word_of (tile (t.corner - j * 4 ^ t.size) t.size t.account)

  abbrev Words : Type 0
  Words = (get_or s (i - 1) 0 ≡ word 1) × (get_or s (i - 2) 0 ≡ word 2) × (get_or s (i - 3) 0 ≡ word 3)

  last_three : tiles (take i s) ≡ tiles (take (i - 3) s) ++ tile_of (get_or s (i - 3) 0) ∷ tile_of (get_or s (i - 2) 0) ∷ tile_of (get_or s (i - 1) 0) ∷ []
  last_three = rw (last_tile s i (i - 1) (omega (arith, room)) room.within, last_tile s (i - 1) (i - 2) (omega (arith, room)) (omega (arith, room)), last_tile s (i - 2) (i - 3) (omega (arith, room)) (omega (arith, room))) (simp append_assoc)

  three_tiles : (p : ℕ) → stop t ≡ p + 4 * 4 ^ t.size → equal_tiles t.size t.account 3 p ≡ tile (t.corner - 3 * 4 ^ t.size) t.size t.account ∷ tile (t.corner - 2 * 4 ^ t.size) t.size t.account ∷ tile (t.corner - 1 * 4 ^ t.size) t.size t.account ∷ []
  unfolding equal_tiles
  three_tiles p q =
      let x : p ≡ t.corner - 3 * 4 ^ t.size = omega arith in
      let y : p + 4 ^ t.size ≡ t.corner - 2 * 4 ^ t.size = omega arith in
      let z : p + 4 ^ t.size + 4 ^ t.size ≡ t.corner - 1 * 4 ^ t.size = omega arith in
      λ j. tile (x j) t.size t.account ∷ tile (y j) t.size t.account ∷ tile (z j) t.size t.account ∷ []

  unpacked : (w j : ℕ) → w ≡ word j → tile_of w ≡ tile (t.corner - j * 4 ^ t.size) t.size t.account
  unpacked w j q = ap tile_of q ∙ tile_word (tile (t.corner - j * 4 ^ t.size) t.size t.account) (omega (arith, room.few)) room.low

  packed : (w j : ℕ) → tile_of w ≡ tile (t.corner - j * 4 ^ t.size) t.size t.account → w ≡ word j
  packed w j q = sym (word_tile w) ∙ ap word_of q

  words_siblings : Words → tiles (take i s) ≡ tiles (take (i - 3) s) ++ equal_tiles t.size t.account 3 (stop t - 4 * 4 ^ t.size)
  words_siblings q = last_three ∙ rw (unpacked _ 1 q.0, unpacked _ 2 q.1, unpacked _ 3 q.2, three_tiles (stop t - 4 * 4 ^ t.size) (omega (arith, room.room)))

  siblings_words : EndsWith (tiles (take i s)) (stop t) t.size t.account → Words
  siblings_words q =
      let r = same_end (tiles (take (i - 3) s)) q.0 _ _ _ _ _ _ (sym last_three ∙ q.3 ∙ ap (λ (ts : List Tile). q.0 ++ ts) (three_tiles q.1 q.2)) in
      (packed _ 1 r.2, packed _ 2 r.1, packed _ 3 r.0)

  pub three_not : (d : Bool) → d ≡ false → (Words → ⊥) → Three s i (stop t) t.size t.account d
  three_not d f n = record { are = λ q. absurd (true_false (sym q ∙ f)); are_not = λ q b. n (siblings_words b) }

  pub three_last : (w : ℕ) → get_or s (i - 1) 0 ≡ word 1 → get_or s (i - 2) 0 ≡ word 2 → w ≡ word 3 → Three s i (stop t) t.size t.account (eqb (get_or s (i - 3) 0) w)
  three_last w p q r = go (test_eqb (get_or s (i - 3) 0) w)
    where
      go : {d : Bool} → Test (get_or s (i - 3) 0 ≡ w) d → Three s i (stop t) t.size t.account d
      go (holds h) = record { are = λ x. words_siblings (p, q, h ∙ r); are_not = λ x. absurd (true_false x) }
      go (fails h) = three_not false refl (λ x. h (x.2 ∙ sym r))
