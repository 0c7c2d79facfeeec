-- The tiles of a list in turn, and then the whole raster.
--     Filling n f left bytes     the tiles left, and the bytes, by rows, on the way to the raster f
--     filling_start              bytes set to 0, and all the tiles of a valid list
--     filling_first              the next of the tiles left lies in the bed
--     filling_next               that tile filled
--     filling_word               the next tile as the next word of the slots
--     filling_end                no tile left
use mathlib.Core.Path.{◌≡◌, refl, sym, ap, ◌∙◌}
use mathlib.Core.List.Memᴰ
use mathlib.Core.List.{List, [], ◌∷◌}
use Prim.Native.Nat.{ℕ, ◌+◌, ◌^◌, ◌≤◌, ◌<◌}
use native.Mathlib.Omega.{arith}
use native.Mathlib.Decide.{dec_lt}
use native.Mathlib.Numerals.{add-one}
use lib.ListN.{length, drop, get_or, replicate}
use lib.Seq.{drop-cons, drop-length}
use Rattle.std.proofs.lemmas.List.{length-replicate, get_or-replicate}
use Rattle.tile.specs.declared.Tile.{Tile}
use Rattle.tile.specs.Tile.{stop, tile_of}
use Rattle.tile.specs.Slots.{tiles}
use Rattle.quadtree.specs.Raster.{account_at, Quadrant}
use Rattle.quadtree.specs.Valid.{Valid}
use Rattle.quadtree.proofs.Alignment.{area_pos}
use Rattle.quadtree.proofs.Tiling.{Tiling, none, next}
use Rattle.quadtree.proofs.Chains.{chain_quadrant}
use Rattle.quadtree.proofs.ValidLaws.{valid_tiling, tiling_chain}
use Rattle.bed.specs.declared.Kind.TheVariants.{Rows}
use Rattle.bed.specs.Places.{place_of, rows}
use Rattle.bed.proofs.PlaceLaws.{place_of_lt, rows_unique}
use Rattle.decode.specs.Filled.{TileFilled}

-- the bytes show f before lo and 0 from there on, and the tiles left tile f from lo on
pub record Filling (n : ℕ) (f : ℕ → ℕ) (left : List Tile) (bytes : List ℕ) : Type 0 where
  pub lo : ℕ
  pub tiling : Tiling f (4 ^ n) lo left
  pub done : (z : ℕ) → z < 4 ^ n → z < lo → get_or bytes (place_of Rows n z) 0 ≡ f z
  pub clear : (z : ℕ) → z < 4 ^ n → lo ≤ z → get_or bytes (place_of Rows n z) 0 ≡ 0
  pub long : length bytes ≡ 4 ^ n

pub filling_start : {n : ℕ} {ts : List Tile} (xs : List ℕ) {ys : List ℕ} → Valid n ts → length xs ≡ 4 ^ n → ys ≡ replicate (length xs) 0 → Filling n (account_at ts) ts ys
filling_start {n} xs v e r = record {
  lo = 0;
  tiling = valid_tiling v;
  done = λ z h l. absurd (omega arith);
  clear = λ z h l. rw r (get_or-replicate (length xs) (place_of Rows n z) 0 0 (omega (arith, place_of_lt Rows n z h)));
  long = ap length r ∙ length-replicate (length xs) 0 ∙ e;
}

pub filling_first : {n : ℕ} {f : ℕ → ℕ} {t : Tile} {ts : List Tile} {xs : List ℕ} → Filling n f (t ∷ ts) xs → Quadrant n t
filling_first g = chain_quadrant (tiling_chain g.tiling) (Memᴰ.head refl)

module _ {n : ℕ} {f : ℕ → ℕ} {xs : List ℕ} (long : length xs ≡ 4 ^ n) {lo : ℕ}
    (done : (z : ℕ) → z < 4 ^ n → z < lo → get_or xs (place_of Rows n z) 0 ≡ f z) (clear : (z : ℕ) → z < 4 ^ n → lo ≤ z → get_or xs (place_of Rows n z) 0 ≡ 0) where
  past : {t : Tile} {ts : List Tile} {ys : List ℕ} → Tiling f (4 ^ n) lo (t ∷ ts) → TileFilled n t xs ys → Filling n f ts ys
  past {t} (next p r) b =
      let g = area_pos t.size in
      record {
        lo = stop t;
        tiling = r;
        done = λ z h l. elim (dec_lt z t.corner) [
          | yes k ↦ b.outside z h (λ c. omega (arith, c.0)) ∙ elim (dec_lt z lo) [ yes m ↦ done z h m | no m ↦ clear z h (omega arith) ∙ sym (p.blank z (omega arith) k) ]
          | no k ↦ b.inside z h (omega arith, l) ∙ sym (p.on.uniform z (omega arith) l)
        ];
        clear = λ z h l. b.outside z h (λ c. omega (arith, c.1)) ∙ clear z h (omega (arith, p.after));
        long = b.long ∙ long;
      }

shown : (n : ℕ) (xs : List ℕ) {f : ℕ → ℕ} {lo : ℕ} → Tiling f (4 ^ n) lo [] → ((z : ℕ) → z < 4 ^ n → z < lo → get_or xs (place_of Rows n z) 0 ≡ f z) → ((z : ℕ) → z < 4 ^ n → lo ≤ z → get_or xs (place_of Rows n z) 0 ≡ 0) →
    (z : ℕ) → z < 4 ^ n → get_or xs (place_of Rows n z) 0 ≡ f z
shown n xs {lo = lo} (none l b) done clear z h = elim (dec_lt z lo) [ yes m ↦ done z h m | no m ↦ clear z h (omega arith) ∙ sym (b z (omega arith) h) ]

pub filling_next : {n : ℕ} {f : ℕ → ℕ} {t : Tile} {ts : List Tile} {xs ys : List ℕ} → Filling n f (t ∷ ts) xs → TileFilled n t xs ys → Filling n f ts ys
filling_next g b = past g.long g.done g.clear g.tiling b

-- of the tiles of some words, those left are from the i-th on
module _ {n : ℕ} {f : ℕ → ℕ} {xs : List ℕ} (words : List ℕ) (i : ℕ) (g : Filling n f (tiles (drop i words)) xs) where
  pub filling_word : i < length words → Filling n f (tile_of (get_or words i 0) ∷ tiles (drop (i + 1) words)) xs
  filling_word h = rw (add-one i) (rw (drop-cons words i 0 h) at g)

  pub filling_end : i ≡ length words → xs ≡ rows n f
  filling_end e =
      let d = rw (e, drop-length words) at g in
      rows_unique n f xs d.long (shown n xs d.tiling d.done d.clear)
