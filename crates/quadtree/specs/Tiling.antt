-- Inner: tilings: lists of tiles that tile a stretch of a raster. Definitions only.
--     Levels e l           blocks start and end at e up to the size l, and no larger one
--     Has k z y            the block of size k that has z has y too
--     Without z y k        k is the largest size of a block that has z and not y
--     On f t               t is aligned, somebody's, and the raster f has its account on all of it
--     Next f lo t          t is the next tile at or behind lo: what lies between is nobody's
--     Tiling f hi lo ts    ts tiles the raster f from lo up to hi, by rising corner, with no overlap
--     equal_tiles k a m c   m equal tiles, of size k and account a, one behind the other from the corner c on
--     Between g n a b t    the tiles of a, t and the tiles of b, in this order, tile the raster g of order n
--     Apart a b t          t's three siblings do not all stand next to it between a and b
use Rattle.std.specs.Prelude.{◌≡◌, List, [], ◌∷◌, ◌++◌, ℕ, zero, suc, ◌+◌, ◌-◌, ◌*◌, ◌^◌, ◌≤◌, ◌<◌}
use Rattle.tile.specs.declared.Tile.{Tile}
use Rattle.tile.specs.Tile.{tile, stop, corner_at, highest_order}
use Rattle.quadtree.specs.Raster.{Aligned, Uniform}

pub record Levels (e l : ℕ) : Type 0 where
  pub few : l ≤ highest_order
  pub ends : Aligned l e
  pub over : Aligned (suc l) e → ⊥

abbrev pub Has : ℕ → ℕ → ℕ → Type 0
Has k z y = (corner_at k z ≤ y) × (y < corner_at k z + 4 ^ k)

pub record Without (z y k : ℕ) : Type 0 where
  pub short : Has k z y → ⊥
  pub over : Has (suc k) z y

pub record On (f : ℕ → ℕ) (t : Tile) : Type 0 where
  pub aligned : Aligned t.size t.corner
  pub owned : 0 < t.account
  pub uniform : Uniform f t.account t.corner (stop t)

pub record Next (f : ℕ → ℕ) (lo : ℕ) (t : Tile) : Type 0 where
  pub after : lo ≤ t.corner
  pub blank : Uniform f 0 lo t.corner
  pub on : On f t

pub data Tiling (f : ℕ → ℕ) (hi : ℕ) : ℕ → List Tile → Type 0 where
  none : {lo : ℕ} → lo ≤ hi → Uniform f 0 lo hi → Tiling f hi lo []
  next : {lo : ℕ} {t : Tile} {ts : List Tile} → Next f lo t → Tiling f hi (stop t) ts → Tiling f hi lo (t ∷ ts)

unfoldable pub equal_tiles : ℕ → ℕ → ℕ → ℕ → List Tile
equal_tiles k a zero c = []
equal_tiles k a (suc m) c = tile c k a ∷ equal_tiles k a m (c + 4 ^ k)

pub record Between (g : ℕ → ℕ) (n : ℕ) (a b : List Tile) (t : Tile) : Type 0 where
  pub ahead : Tiling g t.corner 0 a
  pub rest : Tiling g (4 ^ n) (stop t) b
  pub on : On g t

abbrev pub Apart : List Tile → List Tile → Tile → Type 0
Apart a b t = (j p : ℕ) (h r : List Tile) → j ≤ 3 → Aligned (suc t.size) p → t.corner ≡ p + j * 4 ^ t.size → a ≡ h
    ++ equal_tiles t.size t.account j p → b ≡ equal_tiles t.size t.account (3 - j) (stop t) ++ r → ⊥
