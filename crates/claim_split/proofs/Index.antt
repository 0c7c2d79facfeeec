-- Tilings by index, as a list in slots is read.
--     tiling_placed     where the tile at an index lies
--     tiling_rising     a tile at a higher index starts where one at a lower index stops, or behind
--     Upto d lo ts r x  the first r tiles of ts end by x
--     tiling_cut_at     a tiling cut at an index, where no tile lies over the cut
--     At f hi ts j t    the tile t at the index j, with the tilings ahead of it and behind it
--     tiling_at         a tiling taken apart at an index
use mathlib.Core.Path.{◌≡◌, sym}
use mathlib.Core.List.{List, [], ◌∷◌, ◌++◌}
use Prim.Native.Nat.{ℕ, zero, suc, ◌≤◌, ◌<◌}
use native.Mathlib.Omega.{arith}
use lib.ListN.{length, take, drop, get_or}
use lib.Seq.{split_at}
use Rattle.tile.specs.declared.Tile.{Tile}
use Rattle.tile.specs.Tile.{stop}
use Rattle.quadtree.proofs.Alignment.{area_pos}
use Rattle.quadtree.proofs.Tiling.{On, Tiling, none, next, Placed, first_placed, tiling_split}

pub tiling_placed : {f : ℕ → ℕ} {hi lo : ℕ} {ts : List Tile} (d : Tile) (j : ℕ) → Tiling f hi lo ts → j < length ts → Placed f hi lo (get_or ts j d)
tiling_placed d j (none h b) l = absurd (omega arith)
tiling_placed d zero (next n r) l = first_placed n r
tiling_placed d (suc j) (next {t = t} n r) l =
    let p = tiling_placed d j r (omega arith) in
    record { from = omega (arith, p.from, n.after, area_pos t.size); upto = p.upto; on = p.on }

pub tiling_rising : {f : ℕ → ℕ} {hi lo : ℕ} {ts : List Tile} (d : Tile) (i j : ℕ) → Tiling f hi lo ts → i < j → j < length ts → stop (get_or ts i d) ≤ (get_or ts j d).corner
tiling_rising d i j (none h b) h' l = absurd (omega arith)
tiling_rising d i zero (next n r) h l = absurd (omega arith)
tiling_rising d zero (suc j) (next n r) h l = (tiling_placed d j r (omega arith)).from
tiling_rising d (suc i) (suc j) (next n r) h l = tiling_rising d i j r (omega arith) (omega arith)

abbrev pub Upto : Tile → ℕ → List Tile → ℕ → ℕ → Type 0
Upto d lo ts zero x = lo ≤ x
Upto d lo ts (suc r) x = stop (get_or ts r d) ≤ x

pub tiling_cut_at : {f : ℕ → ℕ} {hi lo : ℕ} {ts : List Tile} (d : Tile) (x r : ℕ) → Tiling f hi lo ts → r ≤ length ts → Upto d lo ts r x → (r < length ts → x ≤ (get_or ts r d).corner) → x ≤ hi →
    Tiling f x lo (take r ts) × Tiling f hi x (drop r ts)
tiling_cut_at d x zero (none h b) l u s g = (none u (λ z zl zh. b z zl (omega arith)), none g (λ z zl zh. b z (omega arith) zh))
tiling_cut_at d x (suc r) (none h b) l u s g = absurd (omega arith)
tiling_cut_at d x zero (next {t = t} n r) l u s g = (
  none u (λ z zl zh. n.blank z zl (omega (arith, s (omega arith)))),
  next {lo = x} {t = t} (record { after = s (omega arith); blank = λ z zl zh. n.blank z (omega arith) zh; on = n.on }) r,
)
tiling_cut_at {lo = lo} d x (suc zero) (next {t = t} n r) l u s g = let c = tiling_cut_at {lo = stop t} d x zero r (omega arith) u (λ h. s (omega arith)) g in (next n c.0, c.1)
tiling_cut_at {lo = lo} d x (suc (suc k)) (next {t = t} n r) l u s g = let c = tiling_cut_at {lo = stop t} d x (suc k) r (omega arith) u (λ h. s (omega arith)) g in (next n c.0, c.1)

pub record At (f : ℕ → ℕ) (hi : ℕ) (ts : List Tile) (j : ℕ) (t : Tile) : Type 0 where
  pub whole : take j ts ++ ((t ∷ []) ++ drop (suc j) ts) ≡ ts
  pub ahead : Tiling f t.corner 0 (take j ts)
  pub rest : Tiling f hi (stop t) (drop (suc j) ts)
  pub on : On f t

pub tiling_at : {f : ℕ → ℕ} {hi : ℕ} {ts : List Tile} (d : Tile) (j : ℕ) → Tiling f hi 0 ts → j < length ts → At f hi ts j (get_or ts j d)
tiling_at {f} {hi} {ts} d j t l = go (tiling_split (take j ts) {t = get_or ts j d} {b = drop (suc j) ts} (rw (← split_at ts j d l) t))
  where
    go : Tiling f (get_or ts j d).corner 0 (take j ts) × Tiling f hi (get_or ts j d).corner (get_or ts j d ∷ drop (suc j) ts) → At f hi ts j (get_or ts j d)
    go (a, next n r) = record { whole = sym (split_at ts j d l); ahead = a; rest = r; on = n.on }
