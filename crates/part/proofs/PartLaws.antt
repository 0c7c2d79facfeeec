-- Quadrant part gives just the tiles of a valid list that lie wholly inside the quadrant.
--     kept g us        the tiles of us that pass the test g, in their order; kept_in, which those are
--     ahead_kept       the tiles ahead of the part's position are those with a smaller corner
--     inside_kept      the tiles of the part are those inside
--     PartInside ..    what quadrant part gives, in terms of the list
--     part_inside      where its checks are passed
use mathlib.Core.Path.{◌≡◌, refl, sym, ◌∙◌, ap}
use mathlib.Core.Bool.{Bool}
use mathlib.Core.List.Memᴰ
use mathlib.Core.List.{List, [], ◌∷◌, map}
use mathlib.Core.Logic.{◌↔◌}
use Prim.Native.Nat.{ℕ, suc, ◌+◌, ◌^◌, ◌≤◌, ◌<◌}
use native.Mathlib.Decide.{dec_lt, dec_le}
use native.Mathlib.Omega.{arith}
use lib.ListN.{take, drop}
use Rattle.basics.specs.Choice.{if}
use Rattle.basics.proofs.Tests.{Test, holds, fails}
use Rattle.basics.proofs.ChoiceLaws.{if_yes, if_no}
use Rattle.refusal.specs.Refusal.{accepted}
use Rattle.tile.specs.declared.Tile.{Tile}
use Rattle.tile.specs.Tile.{stop, tile_of}
use Rattle.tile.specs.Slots.{tiles_in}
use Rattle.quadtree.specs.Raster.{◌∈◌}
use Rattle.quadtree.specs.Valid.{Chain, end, link}
use Rattle.quadtree.proofs.Alignment.{area_pos, area_mono}
use Rattle.quadtree.proofs.Chains.{rising_from, chain_from, chain_rising, chain_apart}
use Rattle.list_search.specs.Count.{is_ahead, counted}
use Rattle.part.specs.Part.{is_inside, part_check, part_of, slice_of}
use Rattle.list_search.proofs.CountLaws.{test_ahead, counted_yes, counted_no, counted_none, ahead_none}
use Rattle.tile.proofs.SlotTiles.{tiles_in_part, tiles_in_front}
use Rattle.part.proofs.InsideLaws.{test_inside, Block, part_check_passed, part_of_accepted, inside_le, first_at, to_le}

unfoldable pub kept : (Tile → Bool) → List Tile → List Tile
kept g [] = []
kept g (u ∷ us) = if (g u) (u ∷ kept g us) (kept g us)

module _ {g : Tile → Bool} {P : Tile → Type 0} (test : (u : Tile) → Test (P u) (g u)) where
  kept_yes : (u : Tile) (us : List Tile) → P u → kept g (u ∷ us) ≡ u ∷ kept g us
  unfolding kept
  kept_yes u us p = if_yes _ _ (test u) p

  kept_no : (u : Tile) (us : List Tile) → (P u → ⊥) → kept g (u ∷ us) ≡ kept g us
  unfolding kept
  kept_no u us p = if_no _ _ (test u) p

  kept_none : (us : List Tile) → ((u : Tile) → u ∈ us → P u → ⊥) → kept g us ≡ []
  unfolding kept
  kept_none [] out = refl
  kept_none (u ∷ us) out = kept_no u us (out u (Memᴰ.head refl)) ∙ kept_none us (λ v i. out v (Memᴰ.tail i))

  member_kept : (us : List Tile) {u : Tile} → u ∈ us → P u → u ∈ kept g us
  member_kept (w ∷ us) {u} (Memᴰ.head e) p = rw (kept_yes w us (rw (← e) p)) (Memᴰ.head e)
  member_kept (w ∷ us) {u} (Memᴰ.tail i) p = go (test w) (member_kept us i p)
    where
      go : {b : Bool} → Test (P w) b → u ∈ kept g us → u ∈ kept g (w ∷ us)
      go (holds q) m = rw (kept_yes w us q) (Memᴰ.tail m)
      go (fails q) m = rw (kept_no w us q) m
  member_kept [] {u = u} x'' p = elim x'' [ ]

  kept_member : (us : List Tile) {u : Tile} → u ∈ kept g us → (u ∈ us) × P u
  unfolding kept
  kept_member (w ∷ us) {u} m = go (test w) (λ i. kept_member us i)
    where
      go : {b : Bool} → Test (P w) b → (u ∈ kept g us → (u ∈ us) × P u) → (u ∈ (w ∷ us)) × P u
      go (holds q) ih = first (rw (kept_yes w us q) at m) ih
        where
          first : u ∈ (w ∷ kept g us) → (u ∈ kept g us → (u ∈ us) × P u) → (u ∈ (w ∷ us)) × P u
          first (Memᴰ.head e) f = (Memᴰ.head e, rw e q)
          first (Memᴰ.tail i) f = (Memᴰ.tail (f i).0, (f i).1)
      go (fails q) ih = let f = ih (rw (kept_no w us q) at m) in (Memᴰ.tail f.0, f.1)
  kept_member [] {u = u} m = elim m [ ]

  pub kept_in : (us : List Tile) (u : Tile) → (u ∈ kept g us) ↔ ((u ∈ us) × P u)
  kept_in us u = (λ m. kept_member us m, λ p. member_kept us p.0 p.1)

module _ {n : ℕ} (c : ℕ) where
  pub ahead_kept : {lo : ℕ} {us : List Tile} → Chain n lo us → take (counted (is_ahead c) us) us ≡ kept (is_ahead c) us
  unfolding kept counted
  ahead_kept end = refl
  ahead_kept {lo} (link {t = t} {ts = ts} p r) = go (dec_lt t.corner c) (ahead_kept r)
    where
      go : Dec (t.corner < c) → take (counted (is_ahead c) ts) ts ≡ kept (is_ahead c) ts → take (counted (is_ahead c) (t ∷ ts)) (t ∷ ts) ≡ kept (is_ahead c) (t ∷ ts)
      go (yes b) ih = rw (counted_yes (test_ahead c) t ts b, kept_yes (test_ahead c) t ts b) (ap (λ (l : List Tile). t ∷ l) ih)
      go (no b) ih =
          let q = chain_rising (link {lo = t.corner} {t = t} (record { quadrant = p.quadrant; after = omega arith }) r) in
          rw (ahead_none c q (omega arith)) (sym (kept_none (test_ahead c) (t ∷ ts) (λ u i l. omega (arith, rising_from q i))))

  pub inside_kept : {lo : ℕ} {us : List Tile} (k : ℕ) → Chain n lo us → take (counted (is_inside c k) us) (drop (counted (is_ahead c) us) us) ≡ kept (is_inside c k) us
  unfolding kept counted
  inside_kept k end = refl
  inside_kept {lo} k (link {t = t} {ts = ts} p r) = go (dec_lt t.corner c) (dec_le (stop t) (c + 4 ^ k)) (inside_kept k r)
    where
      -- the list from t on starts at its corner
      starts : c ≤ t.corner → counted (is_ahead c) (t ∷ ts) ≡ 0
      starts h = ahead_none c (chain_rising (link {lo = t.corner} {t = t} (record { quadrant = p.quadrant; after = omega arith }) r)) h

      go : Dec (t.corner < c) → Dec (stop t ≤ c + 4 ^ k) → take (counted (is_inside c k) ts) (drop (counted (is_ahead c) ts) ts) ≡ kept (is_inside c k) ts →
          take (counted (is_inside c k) (t ∷ ts)) (drop (counted (is_ahead c) (t ∷ ts)) (t ∷ ts)) ≡ kept (is_inside c k) (t ∷ ts)
      go (yes b) s ih =
          let out : (c ≤ t.corner) × (stop t ≤ c + 4 ^ k) → ⊥ = λ i. omega (arith, i.0) in
          rw (counted_yes (test_ahead c) t ts b, counted_no (test_inside c k) t ts out, kept_no (test_inside c k) t ts out) ih
      go (no b) (yes s) ih =
          let i : (c ≤ t.corner) × (stop t ≤ c + 4 ^ k) = (omega arith, s) in
          let z : counted (is_ahead c) ts ≡ 0 = ahead_none c (chain_rising r) (omega (arith, area_pos t.size)) in
          rw (starts (omega arith), counted_yes (test_inside c k) t ts i, kept_yes (test_inside c k) t ts i) (ap (λ (l : List Tile). t ∷ l) (rw z at ih))
      go (no b) (no s) ih =
          let out : (u : Tile) → u ∈ (t ∷ ts) → (c ≤ u.corner) × (stop u ≤ c + 4 ^ k) → ⊥ = far in
          rw (starts (omega arith), counted_none (test_inside c k) (t ∷ ts) out, kept_none (test_inside c k) (t ∷ ts) out)
        where
          far : (u : Tile) → u ∈ (t ∷ ts) → (c ≤ u.corner) × (stop u ≤ c + 4 ^ k) → ⊥
          far u (Memᴰ.head e) i = omega (arith, ap stop e, i.1)
          far u (Memᴰ.tail j) i = omega (arith, chain_from r j, area_pos u.size, i.1)

pub record PartInside (n t : ℕ) (slots : List ℕ) (c k : ℕ) : Type 0 where
  -- a tile is in the part just if it is in the list and wholly inside the quadrant
  pub inside : (u : Tile) → (u ∈ map tile_of (slice_of n t slots c k)) ↔ ((u ∈ tiles_in t slots) × ((c ≤ u.corner) × (stop u ≤ c + 4 ^ k)))
  -- it stands ahead of the part just if it is in the list and has a smaller corner
  pub ahead : (u : Tile) → (u ∈ tiles_in (part_of n t slots c k).position slots) ↔ ((u ∈ tiles_in t slots) × (u.corner < c))
  -- where a larger tile covers the quadrant, the part is empty
  pub covered : (u : Tile) → u ∈ tiles_in t slots → k < u.size → u.corner ≤ c → c + 4 ^ k ≤ stop u → slice_of n t slots c k ≡ []

module _ (n t : ℕ) (slots : List ℕ) (c k : ℕ) (passed : part_check n t slots c k ≡ accepted) where
  part_slice : slice_of n t slots c k ≡ take (counted (is_inside c k) (tiles_in t slots)) (drop (counted (is_ahead c) (tiles_in t slots)) slots)
  unfolding slice_of
  part_slice = rw (part_of_accepted n t slots c k passed)

  block : Block n t slots c k
  block = part_check_passed n t slots c k passed

  -- the part ends by the list's end
  part_room : counted (is_ahead c) (tiles_in t slots) + counted (is_inside c k) (tiles_in t slots) ≤ t
  part_room = omega (arith, inside_le c k (tiles_in t slots), to_le block _ _ refl refl)

  part_tiles : map tile_of (slice_of n t slots c k) ≡ kept (is_inside c k) (tiles_in t slots)
  part_tiles = rw (part_slice, ← tiles_in_part (counted (is_ahead c) (tiles_in t slots)) (counted (is_inside c k) (tiles_in t slots)) t slots part_room) (inside_kept c k block.valid.chain)

  ahead_tiles : tiles_in (part_of n t slots c k).position slots ≡ kept (is_ahead c) (tiles_in t slots)
  ahead_tiles = rw (part_of_accepted n t slots c k passed, ← tiles_in_front (counted (is_ahead c) (tiles_in t slots)) t slots (omega (arith, part_room))) (ahead_kept c block.valid.chain)

  none_inside : (u : Tile) → u ∈ tiles_in t slots → k < u.size → u.corner ≤ c → c + 4 ^ k ≤ stop u → counted (is_inside c k) (tiles_in t slots) ≡ 0
  none_inside u i big l h = counted_none (test_inside c k) (tiles_in t slots) (λ v j w. apart v j w.0 w.1 (dec_lt u.corner v.corner))
    where
      apart : (v : Tile) → v ∈ tiles_in t slots → c ≤ v.corner → stop v ≤ c + 4 ^ k → Dec (u.corner < v.corner) → ⊥
      apart v j p q (yes b) = omega (arith, chain_apart block.valid.chain i j b, area_pos v.size)
      apart v j p q (no b) =
          let e = first_at (tile_of 0) c (chain_rising block.valid.chain) i (omega arith) in
          let g = first_at (tile_of 0) c (chain_rising block.valid.chain) j (omega arith) in
          let m : 4 ^ suc k ≤ 4 ^ u.size = area_mono big in
          omega (arith, ap (λ (x : Tile). 4 ^ x.size) (sym e ∙ g), area_pos k)

  pub part_inside : PartInside n t slots c k
  part_inside = record {
    inside = λ u. rw part_tiles (kept_in (test_inside c k) (tiles_in t slots) u);
    ahead = λ u. rw ahead_tiles (kept_in (test_ahead c) (tiles_in t slots) u);
    covered = λ u i big l h. rw (part_slice, none_inside u i big l h);
  }
