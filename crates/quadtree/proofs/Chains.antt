-- Quadrant tiles, lists of rising corners and chains.
--     quadrant_stop             a quadrant tile ends in its bed
--     rising_down               a list of rising corners from hi on is one from lo on
--     rising_from, rising_at    where its tiles start
--     chain_from                where the tiles of a chain start
--     chain_rising              their corners rise
--     chain_apart               a tile that starts behind another starts where that one stops, or further on
--     chain_last                no tile of a chain stops past its last one
--     chain_quadrant            each tile of a chain is a quadrant tile
--     chain_before              a chain shows nothing ahead of its start
use mathlib.Core.Path.{◌≡◌, refl, ap, sym, ◌∙◌}
use mathlib.Core.List.Memᴰ
use mathlib.Core.List.{List}
use Prim.Native.Nat.{ℕ, zero, suc, ◌+◌, ◌^◌, ◌≤◌, ◌<◌}
use native.Mathlib.Omega.{arith}
use lib.ListN.{length, get_or}
use Rattle.tile.specs.declared.Tile.{Tile}
use Rattle.tile.specs.Tile.{stop}
use Rattle.quadtree.specs.Raster.{account_at, Quadrant, ◌∈◌}
use Rattle.quadtree.specs.Quadtree.{Rising}
use Rattle.quadtree.specs.Quadtree as tree
use Rattle.quadtree.specs.Valid.{Chain, end, link}
use Rattle.quadtree.proofs.Alignment.{area_pos, aligned_room}
use Rattle.quadtree.proofs.Shown.{account_at_rest}

pub quadrant_stop : {n : ℕ} {t : Tile} → Quadrant n t → stop t ≤ 4 ^ n
quadrant_stop q = aligned_room q.fits q.aligned q.inside

pub rising_down : {lo hi : ℕ} {us : List Tile} → lo ≤ hi → Rising hi us → Rising lo us
rising_down h tree.end = tree.end
rising_down {lo} h (tree.link {t = t} p r) = tree.link {lo = lo} {t = t} (omega arith) r

pub rising_from : {lo : ℕ} {u : Tile} {us : List Tile} → Rising lo us → u ∈ us → lo ≤ u.corner
rising_from (tree.link h r) (Memᴰ.head e) = omega (arith, ap (λ (x : Tile). x.corner) e)
rising_from (tree.link h r) (Memᴰ.tail i) = omega (arith, rising_from r i)
rising_from {u = u} (tree.end {lo = lo}) x4 = elim x4 [ ]

pub rising_at : {lo : ℕ} {us : List Tile} (d : Tile) (i : ℕ) → Rising lo us → i < length us → lo ≤ (get_or us i d).corner
rising_at d i tree.end l = absurd (omega arith)
rising_at d zero (tree.link h r) l = h
rising_at d (suc i) (tree.link h r) l = let g = rising_at d i r (omega arith) in omega arith

pub chain_from : {n lo : ℕ} {t : Tile} {ts : List Tile} → Chain n lo ts → t ∈ ts → lo ≤ t.corner
chain_from (link s r) (Memᴰ.head e) = omega (arith, ap (λ (x : Tile). x.corner) e, s.after)
chain_from (link {t = u} s r) (Memᴰ.tail m) = omega (arith, chain_from r m, s.after, area_pos u.size)
chain_from {n = n} {t = t} (end {lo = lo}) x4 = elim x4 [ ]

pub chain_rising : {n lo : ℕ} {us : List Tile} → Chain n lo us → Rising lo us
chain_rising end = tree.end
chain_rising (link {t = t} p r) = tree.link {t = t} p.after (rising_down (omega (arith, area_pos t.size)) (chain_rising r))

pub chain_apart : {n lo : ℕ} {u v : Tile} {us : List Tile} → Chain n lo us → u ∈ us → v ∈ us → u.corner < v.corner → stop u ≤ v.corner
chain_apart (link p r) (Memᴰ.head e) (Memᴰ.head g) h = absurd (omega (arith, ap (λ (x : Tile). x.corner) (e ∙ sym g)))
chain_apart (link p r) (Memᴰ.head e) (Memᴰ.tail j) h = omega (arith, ap stop e, chain_from r j)
chain_apart (link {t = t} p r) (Memᴰ.tail i) (Memᴰ.head g) h = absurd (omega (arith, ap (λ (x : Tile). x.corner) g, chain_from r i, area_pos t.size))
chain_apart (link p r) (Memᴰ.tail i) (Memᴰ.tail j) h = chain_apart r i j h
chain_apart {n = n} {u = u} {v = v} (end {lo = lo}) x10 _ h = elim x10 [ ]

pub chain_last : {n lo : ℕ} {t : Tile} {ts : List Tile} (d : Tile) (i : ℕ) → Chain n lo ts → i + 1 ≡ length ts → t ∈ ts → stop t ≤ stop (get_or ts i d)
chain_last d zero (link s end) e (Memᴰ.head g) = omega (arith, ap stop g)
chain_last d zero (link s end) e (Memᴰ.tail m) = absurd (Memᴰ.not-nil m)
chain_last d zero (link s (link q r)) e m = absurd (omega arith)
chain_last d (suc i) (link s end) e m = absurd (omega arith)
chain_last {lo = lo} d (suc i) (link {t = u} s (link {t = v} q r)) e (Memᴰ.head g) =
    omega (arith, ap stop g, q.after, area_pos v.size, chain_last {lo = stop u} {t = v} d i (link {t = v} q r) (omega arith) (Memᴰ.head refl))
chain_last d (suc i) (link s (link q r)) e (Memᴰ.tail m) = chain_last d i (link q r) (omega arith) m
chain_last {n = n} {lo = lo} {t = t} d zero end e m = elim m [ ]
chain_last {n = n} {lo = lo} {t = t} d (suc i) end e m = elim m [ ]

pub chain_quadrant : {n lo : ℕ} {t : Tile} {ts : List Tile} → Chain n lo ts → t ∈ ts → Quadrant n t
chain_quadrant (link s r) (Memᴰ.head e) = rw e s.quadrant
chain_quadrant (link s r) (Memᴰ.tail m) = chain_quadrant r m
chain_quadrant {n = n} {t = t} (end {lo = lo}) x4 = elim x4 [ ]

pub chain_before : {n lo : ℕ} {ts : List Tile} → Chain n lo ts → (z : ℕ) → z < lo → account_at ts z ≡ 0
unfolding account_at
chain_before end z l = refl
chain_before (link {t = t} {ts = ts} p r) z l = account_at_rest t ts z (λ c. omega (arith, c.0, p.after)) ∙ chain_before r z (omega (arith, p.after))
