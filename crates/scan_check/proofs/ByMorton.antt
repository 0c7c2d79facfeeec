-- Check 22 in Morton order.
--     covers_member   a tile with an unscanned pixel decides, wherever it is in the list
--     covers_empty    an empty list covers nothing
--     morton_last     the last tile of a valid list decides, since none stops past it
use mathlib.Core.Path.{◌≡◌, ◌∙◌, refl, ap, sym}
use mathlib.Core.Bool.{Bool, true, false, ◌||◌}
use mathlib.Core.List.Memᴰ
use mathlib.Core.List.{List, [], ◌∷◌}
use Prim.Native.Nat.{ℕ, ◌-◌, ◌≤◌, ◌<◌}
use native.Mathlib.Decide.{dec_lt}
use native.Mathlib.Omega.{arith}
use lib.Dec.{ltb}
use lib.ListN.{length, get_or, length-map, get_or-map}
use borrow.Author.Tests.{lt-ltb, le-ltb}
use Rattle.basics.proofs.Tests.{test_true}
use Rattle.tile.specs.declared.Tile.{Tile}
use Rattle.tile.specs.Tile.{tile_of, stop}
use Rattle.tile.specs.Slots.{tiles}
use Rattle.quadtree.specs.Raster.{◌∈◌}
use Rattle.quadtree.specs.Valid.{Valid}
use Rattle.quadtree.proofs.Alignment.{area_pos}
use Rattle.quadtree.proofs.Chains.{chain_last}
use Rattle.bed.specs.declared.Kind.TheVariants.{Morton}
use Rattle.bed.specs.declared.Scan.{Scan}
use Rattle.bed.specs.Places.{unscanned_in}
use Rattle.bed.proofs.ScannedBlocks.{test_unscanned}
use Rattle.scan_check.specs.Opening.{covers_unscanned}
use Rattle.bed.proofs.PlaceWords.{place_morton}
use Rattle.scan_check.proofs.Unscanned.{word_in}
use Rattle.scan_check.proofs.ScannedLaws.{tiles_clear}

or_true : (a : Bool) → (a || true) ≡ true
or_true true = refl
or_true false = refl

pub covers_member : (c : Scan) {u : Tile} (ts : List Tile) → u ∈ ts → unscanned_in c.kind c.order c.pixels u.corner u.size ≡ true → covers_unscanned c ts ≡ true
unfolding covers_unscanned
covers_member c (t ∷ ts) (Memᴰ.head e) h = rw (← e, h)
covers_member c (t ∷ ts) (Memᴰ.tail m) h =
    ap (λ (b : Bool). unscanned_in c.kind c.order c.pixels t.corner t.size || b) (covers_member c ts m h) ∙ or_true (unscanned_in c.kind c.order c.pixels t.corner t.size)
covers_member c {u = u} mathlib.Core.List.[] x'' h = elim x'' [ ]

pub covers_empty : (c : Scan) (ws : List ℕ) → length ws ≡ 0 → covers_unscanned c (tiles ws) ≡ false
unfolding covers_unscanned
covers_empty c [] e = refl
covers_empty c (w ∷ ws) e = absurd (omega arith)

module _ (c : Scan) (ws : List ℕ) (k : c.kind ≡ Morton) (v : Valid c.order (tiles ws)) (some : 0 < length ws) where
  abbrev last : Tile
  last = tile_of (get_or ws (length ws - 1) 0)

  upto : {t : Tile} → t ∈ tiles ws → stop t ≤ stop last
  upto m = rw (get_or-map tile_of ws (length ws - 1) 0) at
      (chain_last (tile_of 0) (length ws - 1) v.chain (omega (arith, length-map ws tile_of)) m)

  pub morton_last : (x : ℕ) → x ≡ stop last → ltb c.pixels x ≡ covers_unscanned c (tiles ws)
  morton_last x e = elim (dec_lt c.pixels x) [
    | yes h ↦
        let z : ℕ = stop last - 1 in
        let p = area_pos last.size in
        let u = test_true (test_unscanned c.kind c.order c.pixels last.corner last.size)
        (z, omega arith, omega arith, λ l. omega (arith, place_morton c.kind c.order z k)) in
        lt-ltb c.pixels x h ∙ sym (covers_member c (tiles ws) (word_in ws (length ws - 1) (omega arith)) u)
    | no h ↦ le-ltb c.pixels x (omega arith) ∙ sym (tiles_clear c (tiles ws) (λ t m z l g.
        omega (arith, upto m, place_morton c.kind c.order z k)))
  ]
