-- A tile that merges with the tiles ahead of it, one level after the other.
--     Grown s i t j q   among the tiles of a raster the first i words and the tile t can be dropped for the first j
--                       words and the tile of size q that ends with t
--     grown_start       at first it is t itself
--     grown_more        the three siblings ahead of the tile go with it into the tile of the next size
--     sibling_room, sibling_end   what their size is asked for, and where the tile of that size ends
--     merged_short, merged_other, merged_top   no more: too few words, others, or no larger block ends with t
use mathlib.Core.Path.{◌≡◌, refl, ap}
use mathlib.Core.List.{List, ◌++◌}
use Prim.Native.Nat.{ℕ, zero, suc, ◌+◌, ◌-◌, ◌*◌, ◌^◌, ◌≤◌, ◌<◌}
use native.Mathlib.Numerals.{add-one}
use native.Mathlib.Omega.{arith}
use lib.ListN.{length, take, length-append, length-map}
use lib.Seq.{length-take-le}
use Rattle.tile.specs.declared.Tile.{Tile}
use Rattle.tile.specs.Tile.{stop, tile_of}
use Rattle.tile.specs.Slots.{tiles}
use Rattle.quadtree.specs.Raster.{Aligned}
use Rattle.quadtree.proofs.Alignment.{area_pos, aligned_zero, aligned_gap, aligned_down}
use Rattle.quadtree.specs.Tiling.{Levels, equal_tiles, Between}
use Rattle.quadtree.proofs.Merge.{equal_tiles_length, between_merge}
use Rattle.list_push.specs.Merging.{up_to, EndsWith, MergedInto}

pub record Grown (s : List ℕ) (i : ℕ) (t : Tile) (j q : ℕ) : Type 0 where
  pub back : j ≤ i
  pub between : (n : ℕ) (g : ℕ → ℕ) (b : List Tile) → Between g n (tiles (take i s)) b t → Between g n (tiles (take j s)) b (up_to t q)

pub grown_start : (s : List ℕ) (i : ℕ) (t : Tile) → Grown s i t i t.size
grown_start s i t = record { back = omega arith; between = λ n g b w. let e : stop t - 4 ^ t.size ≡ t.corner = omega arith in rw e w }

aligned_back : (k e : ℕ) → 4 ^ k ≤ e → Aligned k e → Aligned k (e - 4 ^ k)
aligned_back k e h m = go m.times m.is
  where
    go : (t : ℕ) → e ≡ t * 4 ^ k → Aligned k (e - 4 ^ k)
    go zero q = absurd (omega (arith, area_pos k))
    go (suc t) q = record { times = t; is = omega arith }

-- a block that ends with a tile has room up to there
level_room : (t : Tile) {most : ℕ} (q : ℕ) → Levels (stop t) most → q ≤ most → 4 ^ q ≤ stop t
level_room t q l h = omega (arith, aligned_gap (aligned_zero q) (aligned_down h l.ends) (omega (arith, area_pos t.size)))

pub sibling_room : (t : Tile) {most : ℕ} (q : ℕ) → Levels (stop t) most → q < most → 4 * 4 ^ q ≤ stop t
sibling_room t q l h = omega (arith, level_room t (suc q) l h)

-- the tile of the size reached ends where t ends
pub sibling_end : (t : Tile) {most : ℕ} (q a b : ℕ) → Levels (stop t) most → q < most → a ≡ 4 ^ t.size → b ≡ 4 ^ q → t.corner + a - b + 4 ^ q ≡ stop t
sibling_end t q a b l h ea eb = omega (arith, sibling_room t q l h)

module _ {s : List ℕ} {i : ℕ} {t : Tile} {j q most : ℕ} (l : Levels (stop t) most) (grown : Grown s i t j q) where
  pub grown_more : q < most → 3 ≤ j → tiles (take j s) ≡ tiles (take (j - 3) s) ++ equal_tiles q t.account 3 (stop t - 4 * 4 ^ q) → Grown s i t (j - 3) (q + 1)
  unfolding equal_tiles
  grown_more u v e =
      let room = level_room t (suc q) l u in
      let four : 4 * 4 ^ q ≡ 4 ^ suc q = omega arith in
      let m = aligned_back (suc q) (stop t) room (aligned_down u l.ends) in
      record {
        back = omega (arith, grown.back);
        between = λ n g b w. rw (add-one q) (between_merge (tiles (take (j - 3) s)) b q t.account 3 0 (stop t - 4 ^ q) (stop t - 4 ^ suc q) refl (omega arith) m (rw (e, four) at (grown.between n g b w)));
      }

  module _ (h : q ≤ most) where
    merged : (Aligned (suc q) (stop t) → EndsWith (tiles (take j s)) (stop t) q t.account → ⊥) → MergedInto s i t (record { at = j; size = q })
    merged u = record { at = grown.back; room = level_room t q l h; few = omega (arith, l.few); between = grown.between; ended = u }

    pub merged_short : j < 3 → j ≤ length s → MergedInto s i t (record { at = j; size = q })
    merged_short u v = merged (λ m d. omega (arith, ap length d.3, length-append d.0 (equal_tiles q t.account 3 d.1), equal_tiles_length q t.account 3 d.1, length-map (take j s) tile_of, length-take-le j s v))

    pub merged_other : (EndsWith (tiles (take j s)) (stop t) q t.account → ⊥) → MergedInto s i t (record { at = j; size = q })
    merged_other u = merged (λ m. u)

    pub merged_top : most ≤ q → MergedInto s i t (record { at = j; size = q })
    merged_top u = merged (λ m d. let e : q ≡ most = omega arith in l.over (rw e at m))
