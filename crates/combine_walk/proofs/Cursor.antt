-- One list walked by a cursor.
--     stands_on               a cursor that stands at z stands at every later number
--     stands_start            at first the cursor stands at the first tile
--     stands_over             a tile that ends by z is passed
--     piece_none, -free, -on  the stretch at z: behind the last tile, ahead of a tile, on a tile
use mathlib.Core.Path.{◌≡◌, ◌∙◌, sym}
use mathlib.Core.List.{List, [], ◌∷◌}
use Prim.Native.Nat.{ℕ, ◌+◌, ◌^◌, ◌≤◌, ◌<◌}
use native.Mathlib.Omega.{arith}
use native.Mathlib.Numerals.{add-one}
use lib.ListN.{length, drop, get_or}
use lib.Seq.{drop-cons, drop-length}
use Rattle.tile.specs.declared.Tile.{Tile}
use Rattle.tile.specs.Tile.{tile_of, stop}
use Rattle.tile.specs.Slots.{tiles_in}
use Rattle.tile.proofs.SlotsLaws.{length_tiles_in}
use Rattle.tile.proofs.SlotTiles.{tiles_in_at}
use Rattle.tile.proofs.TileLaws.{tile_of_account}
use Rattle.quadtree.specs.Raster.{Uniform, account_at}
use Rattle.quadtree.specs.Valid.{Valid}
use Rattle.quadtree.proofs.Tiling.{Tiling, none, next, tiling_le}
use Rattle.quadtree.proofs.ValidLaws.{valid_tiling}
use Rattle.combine_walk.specs.Walk.{Past, Stands, PieceOf}

pub stands_on : {end t : ℕ} {s : List ℕ} {z i : ℕ} (y : ℕ) → z ≤ y → Stands end t s z i → Stands end t s y i
stands_on y h p = record { within = p.within; upto = p.upto; past = record { lo = p.past.lo; from = omega (arith, p.past.from); tiling = p.past.tiling } }

pub stands_start : {n t : ℕ} {s : List ℕ} (end : ℕ) → end ≡ 4 ^ n → t ≤ length s → Valid n (tiles_in t s) → Stands end t s 0 0
stands_start {n} {t} {s} end e h v = record { within = h; upto = omega arith; past = record { lo = 0; from = omega arith; tiling = rw e (valid_tiling v) } }

-- the tiles from i on
tiles_from : (t : ℕ) (s : List ℕ) (i : ℕ) → i < t → t ≤ length s → drop i (tiles_in t s) ≡ tile_of (get_or s i 0) ∷ drop (i + 1) (tiles_in t s)
tiles_from t s i h l = drop-cons (tiles_in t s) i (tile_of 0) (omega (arith, length_tiles_in t s l)) ∙ rw (tiles_in_at t s i h, add-one i)

tiles_none : (t : ℕ) (s : List ℕ) (i : ℕ) → i ≡ t → t ≤ length s → drop i (tiles_in t s) ≡ []
tiles_none t s i e l = let k : i ≡ length (tiles_in t s) = e ∙ sym (length_tiles_in t s l) in rw k (drop-length (tiles_in t s))

past_over : {g : ℕ → ℕ} {end z : ℕ} {u : Tile} {us : List Tile} → Past g end z (u ∷ us) → stop u ≤ z → Past g end z us
past_over {g} {end} {z} {u} {us} p h = go p.tiling
  where
    go : {lo : ℕ} → Tiling g end lo (u ∷ us) → Past g end z us
    go (next n r) = record { lo = stop u; from = h; tiling = r }

past_none : {g : ℕ → ℕ} {end z : ℕ} → Past g end z [] → Uniform g 0 z end
past_none {g} {end} {z} p = go p.from p.tiling
  where
    go : {lo : ℕ} → lo ≤ z → Tiling g end lo [] → Uniform g 0 z end
    go l (none h b) x p q = b x (omega arith) q

past_free : {g : ℕ → ℕ} {end z : ℕ} {u : Tile} {us : List Tile} → Past g end z (u ∷ us) → Uniform g 0 z u.corner
past_free {g} {end} {z} {u} {us} p = go p.from p.tiling
  where
    go : {lo : ℕ} → lo ≤ z → Tiling g end lo (u ∷ us) → Uniform g 0 z u.corner
    go l (next n r) x p q = n.blank x (omega arith) q

past_tile : {g : ℕ → ℕ} {end z : ℕ} {u : Tile} {us : List Tile} → Past g end z (u ∷ us) → u.corner ≤ z → Uniform g u.account z (stop u)
past_tile {g} {end} {z} {u} {us} p h = go p.tiling
  where
    go : {lo : ℕ} → Tiling g end lo (u ∷ us) → Uniform g u.account z (stop u)
    go (next n r) x p q = n.on.uniform x (omega arith) q

past_room : {g : ℕ → ℕ} {end z : ℕ} {u : Tile} {us : List Tile} → Past g end z (u ∷ us) → stop u ≤ end
past_room {g} {end} {z} {u} {us} p = go p.tiling
  where
    go : {lo : ℕ} → Tiling g end lo (u ∷ us) → stop u ≤ end
    go (next n r) = tiling_le r

module _ {end t : ℕ} {s : List ℕ} {z i : ℕ} (p : Stands end t s z i) where
  pub piece_none : t ≤ i → z < end → PieceOf end t s z (record { account = 0; stop = end; at = t })
  piece_none h l =
      let e : i ≡ t = omega (arith, p.upto) in
      record {
        stretch = record { some = l; room = omega arith; uniform = past_none (rw (tiles_none t s i e p.within) at p.past); low = omega arith };
        stands = rw e at p;
      }

  -- the word w at i
  module _ (h : i < t) (w : ℕ) (e : w ≡ get_or s i 0) where
    here : Past (account_at (tiles_in t s)) end z (tile_of w ∷ drop (i + 1) (tiles_in t s))
    here = rw e (rw (tiles_from t s i h p.within) at p.past)

    pub stands_over : stop (tile_of w) ≤ z → Stands end t s z (i + 1)
    stands_over l = record { within = p.within; upto = omega arith; past = past_over here l }

    pub piece_free : (x : ℕ) → x ≡ (tile_of w).corner → z < x → PieceOf end t s z (record { account = 0; stop = x; at = i })
    piece_free x c l = record {
      stretch = record { some = l; room = omega (arith, past_room here); uniform = rw c (past_free here); low = omega arith };
      stands = p;
    }

    pub piece_on : (x a : ℕ) → x ≡ stop (tile_of w) → a ≡ (tile_of w).account → (tile_of w).corner ≤ z → z < x → PieceOf end t s z (record { account = a; stop = x; at = i })
    piece_on x a c b k l = record {
      stretch = record { some = l; room = omega (arith, past_room here); uniform = rw (c, b) (past_tile here k); low = omega (arith, tile_of_account w) };
      stands = p;
    }
