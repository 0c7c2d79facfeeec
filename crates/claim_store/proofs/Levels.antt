-- The tiles of a split block written level by level, as equations between lists.
--     both_written      equal tiles written on both sides, and what is between them left to write
--     Turned ..      the numbers of one level
--     Putting ..     the tiles of the block of size s at d are left to write from `left` up to `right`
--     part_written      a part of the slots written
--     level, put_level, put_parts   one level written; behind_length: as many slots behind as tiles
--     put_room, put_one, put_none   the block itself, and the end
use mathlib.Core.Path.{◌≡◌, ◌∙◌, refl, ap, sym}
use mathlib.Core.List.{List, [], ◌∷◌, ◌++◌, map, append_assoc, map-append}
use Prim.Native.Nat.{ℕ, zero, suc, ◌+◌, ◌-◌, ◌*◌, ◌/◌, ◌^◌, ◌≤◌, ◌<◌}
use native.Mathlib.Omega.{arith}
use native.Mathlib.Nat.{add-mul}
use lib.ListN.{length, take, drop, set, length-append, length-drop, length-map, take-append-drop}
use lib.Seq.{set_split, take_at, drop_at, take-take, take-append-le, drop-drop, length-take-le, drop-append-add}
use borrow.Rule.Slice.PartMut.{put_mid}
use Rattle.tile.specs.Tile.{tile, word_of, highest_order}
use Rattle.quadtree.specs.Quadtree.{single}
use Rattle.quadtree.proofs.Alignment.{area_pos}
use Rattle.quadtree.specs.Tiling.{equal_tiles}
use Rattle.quadtree.proofs.Merge.{equal_tiles_length}
use Rattle.claim_split.specs.Split.{pieces}
use Rattle.claim_split.proofs.Split.{holder, single_some}
use Rattle.claim_plan.specs.Plan.{inner}
use Rattle.claim_plan.proofs.Counts.{inner_none, inner_one}
use Rattle.claim_store.specs.Stores.{Drawn}

pub both_written : (t u w x r1 r2 : List ℕ) (left right i j : ℕ) → length r1 ≡ i → length r2 ≡ j → left + i ≤ right → right + j ≤ length t →
    u ≡ take left t ++ (r1 ++ drop (left + i) t) → w ≡ take right u ++ (r2 ++ drop (right + j) u) →
    take (left + i) w ++ (x ++ drop right w) ≡ take left t ++ ((r1 ++ (x ++ r2)) ++ drop (right + j) t)
both_written t u w x r1 r2 left right i j ei ej h l eu ew =
    rw (front, back) (simp append_assoc)
  where
    lp : length (take left t ++ r1) ≡ left + i
    lp = length-append (take left t) r1 ∙ omega (arith, length-take-le left t (omega arith))

    eu' : u ≡ (take left t ++ r1) ++ drop (left + i) t
    eu' = eu ∙ sym (append_assoc (take left t) r1 (drop (left + i) t))

    lu : length u ≡ length t
    lu = ap length eu' ∙ length-append (take left t ++ r1) (drop (left + i) t) ∙ omega (arith, lp, length-drop (left + i) t)

    front : take (left + i) w ≡ take left t ++ r1
    front = rw (ew, take-append-le (left + i) (take right u) (r2 ++ drop (right + j) u) (omega (arith, length-take-le right u (omega (arith, lu)))), take-take (left + i) right u h, eu', take_at (take left t ++ r1) (drop (left + i) t) (left + i) lp)

    far : drop (right + j) u ≡ drop (right + j) t
    far =
        let q : right + j ≡ length (take left t ++ r1) + (right + j - (left + i)) = omega (arith, lp) in
        let z : left + i + (right + j - (left + i)) ≡ right + j = omega arith in
        ap (λ (n : ℕ). drop n u) q ∙ ap (λ (l : List ℕ). drop (length (take left t ++ r1) + (right + j - (left + i))) l) eu' ∙ drop-append-add (take left t ++ r1) (drop (left + i) t) (right + j - (left + i)) ∙ drop-drop (right + j - (left + i)) (left + i) t ∙ ap (λ (n : ℕ). drop n t) z

    back : drop right w ≡ r2 ++ drop (right + j) t
    back = rw (ew, drop_at (take right u) (r2 ++ drop (right + j) u) right (length-take-le right u (omega (arith, lu))), far)

-- a part of so many slots is written
abbrev pub PartWritten : List ℕ → ℕ → ℕ → ℕ → ℕ → ℕ → List ℕ → Type 0
PartWritten t at i k a x ys = ys ≡ map word_of (equal_tiles k a (length (take (at + i - at) (drop at t))) x)

part_length : (t : List ℕ) (at i : ℕ) → at + i ≤ length t → length (take (at + i - at) (drop at t)) ≡ i
part_length t at i h = let e : at + i - at ≡ i = omega arith in rw e (length-take-le i (drop at t) (omega (arith, length-drop at t)))

part_written : (t : List ℕ) (at i k a x : ℕ) {ys : List ℕ} → at + i ≤ length t → PartWritten t at i k a x ys →
    put_mid at (at + i - at) t ys ≡ take at t ++ (map word_of (equal_tiles k a i x) ++ drop (at + i) t)
part_written t at i k a x h w =
    let e : at + i - at ≡ i = omega arith in
    let l = part_length t at i h in
    rw (w, l, e, drop-drop i at t)

words_length : (t : List ℕ) (at i k a x : ℕ) → at + i ≤ length t → length (take at t ++ (map word_of (equal_tiles k a i x) ++ drop (at + i) t)) ≡ length t
words_length t at i k a x h = simp (length-append, length-map, equal_tiles_length, length-drop) (omega (arith, length-take-le at t (omega arith)))

pub record Turned (len left k c a v s d area : ℕ) : Type 0 where
  pub four : (c - d) / area ≤ 3
  pub some : 0 < area
  pub small : s - 1 ≤ highest_order
  pub from : d + (c - d) / area * area ≤ c
  pub corner : c < 4 ^ highest_order
  pub ahead : d + (c - d) / area * 4 ^ (s - 1) ≤ 4 ^ highest_order
  pub behind : d + (c - d) / area * area + area + (3 - (c - d) / area) * 4 ^ (s - 1) ≤ 4 ^ highest_order
  pub drawn : Drawn len (left + (c - d) / area) k c a v (s - 1) (d + (c - d) / area * area)

turned : (len left k c a v s d area : ℕ) → Drawn len left k c a v s d → k < s → area ≡ 4 ^ (s - 1) → Turned len left k c a v s d area
turned len left k c a v s d area w h es =
    let e : suc (s - 1) ≡ s = omega arith in
    let q : 4 ^ suc (s - 1) ≡ 4 ^ s = ap (λ (x : ℕ). 4 ^ x) e in
    let t = holder c (s - 1) d w.from (omega (arith, w.upto)) in
    let i : ℕ = (c - d) / 4 ^ (s - 1) in
    let j : (c - d) / 4 ^ (s - 1) + (3 - (c - d) / 4 ^ (s - 1)) ≡ 3 = omega (arith, t.four) in
    let f : (c - d) / 4 ^ (s - 1) * 4 ^ (s - 1) + (3 - (c - d) / 4 ^ (s - 1)) * 4 ^ (s - 1) ≡ 3 * 4 ^ (s - 1) = sym (add-mul ((c - d) / 4 ^ (s - 1)) (3 - (c - d) / 4 ^ (s - 1)) (4 ^ (s - 1))) ∙ ap (λ (x : ℕ). x * 4 ^ (s - 1)) j in
    rw es (record {
      four = t.four;
      some = area_pos (s - 1);
      small = omega (arith, w.small);
      from = t.from;
      corner = omega (arith, w.upto, w.room);
      ahead = omega (arith, t.from, w.upto, w.room);
      behind = omega (arith, w.room, f);
      drawn = record {
        sizes = omega arith;
        small = omega (arith, w.small);
        from = t.from;
        upto = t.upto;
        room = omega (arith, t.room, w.room);
        owner = w.owner;
        account = w.account;
        fits = omega (arith, w.fits, t.four);
      };
    })

pieces_step : (k c a v s d area : ℕ) → k < s → area ≡ 4 ^ (s - 1) → map word_of (pieces k c a v (s - k) d) ≡
    map word_of (equal_tiles (s - 1) v ((c - d) / area) d) ++ (map word_of (pieces k c a v (s - 1 - k) (d + (c - d) / area * area)) ++ map word_of (equal_tiles (s - 1) v (3 - (c - d) / area) (d + (c - d) / area * area + area)))
unfolding pieces
pieces_step k c a v s d area h es =
    let p : s - k ≡ suc (s - 1 - k) = omega arith in
    let q : k + (s - 1 - k) ≡ s - 1 = omega arith in
    rw (es, p, q) (simp map-append)

-- b is what the slots t become
pub record Putting (b t : List ℕ) (left right k c a v s d : ℕ) : Type 0 where
  pub drawn : Drawn (length t) left k c a v s d
  pub end : right ≡ left + (3 * (s - k) + inner a)
  pub rest : b ≡ take left t ++ (map word_of (pieces k c a v (s - k) d) ++ drop right t)

module _ {b t : List ℕ} {left right k c a v s d area : ℕ} (m : Putting b t left right k c a v s d) (h : k < s) (es : area ≡ 4 ^ (s - 1)) where
  pub level : Turned (length t) left k c a v s d area
  level = turned (length t) left k c a v s d area m.drawn h es

  back : right - (3 - (c - d) / area) + (3 - (c - d) / area) ≡ right
  back = omega (arith, level.four, m.end)

  put_level : {u r : List ℕ} → u ≡ take left t ++ (map word_of (equal_tiles (s - 1) v ((c - d) / area) d) ++ drop (left + (c - d) / area) t) →
      r ≡ take (right - (3 - (c - d) / area)) u ++ (map word_of (equal_tiles (s - 1) v (3 - (c - d) / area) (d + (c - d) / area * area + area)) ++ drop (right - (3 - (c - d) / area) + (3 - (c - d) / area)) u) →
      length r ≡ length t → Putting b r (left + (c - d) / area) (right - (3 - (c - d) / area)) k c a v (s - 1) (d + (c - d) / area * area)
  put_level {u} {r} eu ew lr = record { drawn = rw lr level.drawn; end = omega (arith, level.four, m.end); rest = m.rest ∙ ap (λ (l : List ℕ). take left t ++ (l ++ drop right t)) (pieces_step k c a v s d area h es) ∙ sym (rw back at both) }
    where
      side_length : (i x : ℕ) → length (map word_of (equal_tiles (s - 1) v i x)) ≡ i
      side_length i x = length-map (equal_tiles (s - 1) v i x) word_of ∙ equal_tiles_length (s - 1) v i x

      both : take (left + (c - d) / area) r ++ (map word_of (pieces k c a v (s - 1 - k) (d + (c - d) / area * area)) ++ drop (right - (3 - (c - d) / area)) r) ≡
          take left t ++ ((map word_of (equal_tiles (s - 1) v ((c - d) / area) d) ++ (map word_of (pieces k c a v (s - 1 - k) (d + (c - d) / area * area)) ++ map word_of (equal_tiles (s - 1) v (3 - (c - d) / area) (d + (c - d) / area * area + area)))) ++ drop (right - (3 - (c - d) / area) + (3 - (c - d) / area)) t)
      both = both_written t u r (map word_of (pieces k c a v (s - 1 - k) (d + (c - d) / area * area))) (map word_of (equal_tiles (s - 1) v ((c - d) / area) d)) (map word_of (equal_tiles (s - 1) v (3 - (c - d) / area) (d + (c - d) / area * area + area))) left (right - (3 - (c - d) / area)) ((c - d) / area) (3 - (c - d) / area) (side_length _ _) (side_length _ _) (omega (arith, level.four, m.end)) (omega (arith, back, m.end, m.drawn.fits)) eu ew

  -- the part ahead is written, then the part behind
  module _ {ys : List ℕ} (wy : PartWritten t left ((c - d) / area) (s - 1) v d ys) where
    abbrev half : List ℕ
    half = put_mid left (left + (c - d) / area - left) t ys

    front : left + (c - d) / area ≤ length t
    front = omega (arith, level.drawn.fits)

    half_is : half ≡ take left t ++ (map word_of (equal_tiles (s - 1) v ((c - d) / area) d) ++ drop (left + (c - d) / area) t)
    half_is = part_written t left ((c - d) / area) (s - 1) v d front wy

    half_length : length half ≡ length t
    half_length = ap length half_is ∙ words_length t left ((c - d) / area) (s - 1) v d front

    room : right - (3 - (c - d) / area) + (3 - (c - d) / area) ≤ length half
    room = omega (arith, half_length, back, m.end, m.drawn.fits)

    pub behind_length : length (take (right - (3 - (c - d) / area) + (3 - (c - d) / area) - (right - (3 - (c - d) / area))) (drop (right - (3 - (c - d) / area)) half)) ≡ 3 - (c - d) / area
    behind_length = part_length half (right - (3 - (c - d) / area)) (3 - (c - d) / area) room

    pub put_parts : {zs : List ℕ} → PartWritten half (right - (3 - (c - d) / area)) (3 - (c - d) / area) (s - 1) v (d + (c - d) / area * area + area) zs →
        Putting b (put_mid (right - (3 - (c - d) / area)) (right - (3 - (c - d) / area) + (3 - (c - d) / area) - (right - (3 - (c - d) / area))) half zs) (left + (c - d) / area) (right - (3 - (c - d) / area)) k c a v (s - 1) (d + (c - d) / area * area)
    put_parts {zs} wz =
        let ew = part_written half (right - (3 - (c - d) / area)) (3 - (c - d) / area) (s - 1) v (d + (c - d) / area * area + area) room wz in
        put_level half_is ew (ap length ew ∙ words_length half (right - (3 - (c - d) / area)) (3 - (c - d) / area) (s - 1) v (d + (c - d) / area * area + area) room ∙ half_length)

single_words : (k c a : ℕ) → 0 < a → map word_of (single c k a) ≡ word_of (tile c k a) ∷ []
single_words k c a h = rw (single_some c k a h)

none_words : (k c a : ℕ) → a ≡ 0 → map word_of (single c k a) ≡ []
unfolding single
none_words k c zero e = refl
none_words k c (suc a) e = absurd (omega arith)

module _ {b t : List ℕ} {left right k c a v s d : ℕ} (m : Putting b t left right k c a v s d) (e : s ≡ k) where
  pub put_room : (a ≡ 0 → ⊥) → left < length t
  put_room ne = omega (arith, inner_one a ne, m.drawn.fits)

  pub put_one : (a ≡ 0 → ⊥) → set t left (word_of (tile c k a)) ≡ b
  unfolding pieces
  put_one ne =
      let p : s - k ≡ 0 = omega arith in
      let q : right ≡ suc left = omega (arith, inner_one a ne, m.end) in
      set_split t left (word_of (tile c k a)) (put_room ne) ∙ sym (m.rest ∙ rw (p, q, single_words k c a (omega arith)))

  pub put_none : a ≡ 0 → t ≡ b
  unfolding pieces
  put_none z =
      let p : s - k ≡ 0 = omega arith in
      let q : right ≡ left = omega (arith, inner_none a z, m.end) in
      sym (m.rest ∙ rw (p, q, none_words k c a z) (take-append-drop left t))
