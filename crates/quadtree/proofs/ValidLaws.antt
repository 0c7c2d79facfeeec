-- Valid lists and linear quadtrees are the same lists. Every call's result is shown to be the linear quadtree by these laws.
--     tiling_chain         a tiling of the bed is a chain
--     chain_tiling         a chain tiles what it shows
--     tiling_valid         a tiling of the bed without four siblings in a row is valid
--     tiling_quadtree      and is the linear quadtree of its raster
--     quadtree_tiling      the linear quadtree tiles its raster
--     quadtree_valid       and is valid
--     quadtree_shown       what it shows is the raster again: the round trip
--     quadtree_cong        it goes by the raster's accounts on the bed
--     valid_quadrant       each tile of a valid list is a quadrant tile of the bed
--     valid_length         it has no more tiles than its bed has pixels
--     valid_quadtree       a valid list is the linear quadtree of the accounts that it shows
--     valid_unique         two valid lists that show the same accounts are equal
use mathlib.Core.Path.{◌≡◌, refl, sym, ◌∙◌}
use mathlib.Core.List.Memᴰ
use mathlib.Core.List.{List, [], ◌∷◌}
use Prim.Native.Nat.{ℕ, suc, ◌+◌, ◌^◌, ◌≤◌, ◌<◌}
use native.Mathlib.Nat.{le_refl}
use native.Mathlib.Omega.{arith}
use lib.ListN.{length}
use Rattle.tile.specs.declared.Tile.{Tile}
use Rattle.tile.specs.Tile.{stop}
use Rattle.quadtree.specs.Raster.{Uniform, account_at, Quadrant, ◌∈◌}
use Rattle.quadtree.specs.Quadtree.{quadtree}
use Rattle.quadtree.specs.Valid.{Chain, end, link, Valid}
use Rattle.quadtree.proofs.Alignment.{area_pos, size_le, aligned_zero}
use Rattle.quadtree.proofs.Tiling.{Tiling, none, next, tiling_le, tiling_cong, uniform_join}
use Rattle.quadtree.proofs.Shown.{account_at_first, account_at_rest, account_at_tiling}
use Rattle.quadtree.proofs.Chains.{quadrant_stop, chain_quadrant, chain_before}
use Rattle.quadtree.proofs.Blocks.{Top, blocks_tiling, blocks_top}
use Rattle.quadtree.proofs.Siblings.{Siblings, Four, NoFour, siblings_stop, merged_no_four, no_four_merged}
use Rattle.quadtree.proofs.Unique.{AllTop, one_form}

-- what four siblings cover is uniform, and lies where the tiling does
pub four_uniform : {f : ℕ → ℕ} {hi lo : ℕ} {t u v w : Tile} {ts : List Tile} → Tiling f hi lo (t ∷ u ∷ v ∷ w ∷ ts) → Siblings t u v w → Uniform f t.account t.corner (t.corner + 4 ^ suc t.size)
four_uniform {f} {t = t} {u} {v} {w} (next p (next q (next r (next s z)))) b =
    let g2 : Uniform f t.account (stop t) (stop t + 4 ^ t.size) = rw b.second at q.on.uniform in
    let g3 : Uniform f t.account (stop t + 4 ^ t.size) (stop t + 4 ^ t.size + 4 ^ t.size) = rw (b.third, b.second) at r.on.uniform in
    let g4 : Uniform f t.account (stop t + 4 ^ t.size + 4 ^ t.size) (stop t + 4 ^ t.size + 4 ^ t.size + 4 ^ t.size) = rw (b.fourth, b.third, b.second) at s.on.uniform in
    λ x l h. uniform_join p.on.uniform (uniform_join g2 (uniform_join g3 g4)) x l (omega arith)

pub four_room : {f : ℕ → ℕ} {hi lo : ℕ} {t u v w : Tile} {ts : List Tile} → Tiling f hi lo (t ∷ u ∷ v ∷ w ∷ ts) → Siblings t u v w → t.corner + 4 ^ suc t.size ≤ hi
four_room (next p (next q (next r (next s z)))) b = omega (arith, siblings_stop b, tiling_le z)

-- largest tiles are no four siblings
top_four : {n : ℕ} {f : ℕ → ℕ} {lo : ℕ} {t : Tile} (ts : List Tile) → Top n f t → Tiling f (4 ^ n) lo (t ∷ ts) → Four t ts → ⊥
top_four [] big r b = b
top_four (u ∷ []) big r b = b
top_four (u ∷ v ∷ []) big r b = b
top_four {n} {t = t} (u ∷ v ∷ w ∷ ts) big r b =
    big.top (suc t.size) t.corner (omega arith) (size_le (suc t.size) n (omega (arith, four_room r b))) b.aligned (omega arith) (omega (arith, area_pos t.size)) (four_uniform r b)

pub top_no_four : {n : ℕ} {f : ℕ → ℕ} {lo : ℕ} {ts : List Tile} → Tiling f (4 ^ n) lo ts → AllTop n f ts → NoFour ts
top_no_four (none h b) big = tt
top_no_four (next {t = t} {ts = ts} p r) big = (top_four ts (big t (Memᴰ.head refl)) (next p r), top_no_four r (λ v i. big v (Memᴰ.tail i)))

pub tiling_chain : {n : ℕ} {f : ℕ → ℕ} {lo : ℕ} {ts : List Tile} → Tiling f (4 ^ n) lo ts → Chain n lo ts
tiling_chain (none h b) = end
tiling_chain {n} (next {t = t} p r) =
    let h = tiling_le r in
    let g = area_pos t.size in
    link {t = t} (record { quadrant = record { fits = size_le t.size n (omega arith); inside = omega arith; aligned = p.on.aligned; owned = p.on.owned }; after = p.after }) (tiling_chain r)

pub tiling_valid : {n : ℕ} {f : ℕ → ℕ} {ts : List Tile} → Tiling f (4 ^ n) 0 ts → NoFour ts → Valid n ts
tiling_valid r nf = let c = tiling_chain r in record { chain = c; merged = no_four_merged c nf }

pub chain_tiling : {n lo : ℕ} {ts : List Tile} (f : ℕ → ℕ) → Chain n lo ts → lo ≤ 4 ^ n → ((z : ℕ) → lo ≤ z → z < 4 ^ n → account_at ts z ≡ f z) → Tiling f (4 ^ n) lo ts
unfolding account_at
chain_tiling f end h e = none h (λ z l g. sym (e z l g))
chain_tiling {n} f (link {t = t} {ts = ts} p r) h e =
    let pos = area_pos t.size in
    let inn : stop t ≤ 4 ^ n = quadrant_stop p.quadrant in
    next
    (record {
      after = p.after;
      blank = λ z l g. sym (e z l (omega arith)) ∙ account_at_rest t ts z (λ c. omega (arith, c.0)) ∙ chain_before r z (omega arith);
      on = record { aligned = p.quadrant.aligned; owned = p.quadrant.owned; uniform = λ z l g. sym (e z (omega (arith, p.after)) (omega arith)) ∙ account_at_first t ts z (l, g) };
    })
    (chain_tiling f r inn (λ z l g. sym (account_at_rest t ts z (λ c. omega (arith, c.1))) ∙ e z (omega (arith, p.after)) g))

pub valid_tiling : {n : ℕ} {ts : List Tile} → Valid n ts → Tiling (account_at ts) (4 ^ n) 0 ts
valid_tiling {n} {ts} v = chain_tiling (account_at ts) v.chain (omega arith) (λ z l g. refl)

pub valid_quadrant : {n : ℕ} {t : Tile} {ts : List Tile} → Valid n ts → t ∈ ts → Quadrant n t
valid_quadrant v m = chain_quadrant v.chain m

tiling_length : {f : ℕ → ℕ} {hi lo : ℕ} {ts : List Tile} → Tiling f hi lo ts → length ts + lo ≤ hi
tiling_length (none h b) = omega arith
tiling_length (next {t = t} n r) = omega (arith, tiling_length r, n.after, area_pos t.size)

pub valid_length : {n : ℕ} {ts : List Tile} → Valid n ts → length ts ≤ 4 ^ n
valid_length v = omega (arith, tiling_length (valid_tiling v))

pub quadtree_tiling : (n : ℕ) (f : ℕ → ℕ) → Tiling f (4 ^ n) 0 (quadtree n f)
unfolding quadtree
quadtree_tiling n f = blocks_tiling f n 0 (aligned_zero n) (4 ^ n) (omega arith)

pub quadtree_top : (n : ℕ) (f : ℕ → ℕ) → AllTop n f (quadtree n f)
unfolding quadtree
quadtree_top n f = blocks_top f n 0 (aligned_zero n)

pub tiling_quadtree : (n : ℕ) {ts : List Tile} (f : ℕ → ℕ) → Tiling f (4 ^ n) 0 ts → NoFour ts → ts ≡ quadtree n f
tiling_quadtree n f t nf = one_form f n 0 (4 ^ n) (omega arith) (le_refl 0) t nf (quadtree_tiling n f) (quadtree_top n f)

pub quadtree_no_four : (n : ℕ) (f : ℕ → ℕ) → NoFour (quadtree n f)
quadtree_no_four n f = top_no_four (quadtree_tiling n f) (quadtree_top n f)

pub quadtree_valid : (n : ℕ) (f : ℕ → ℕ) → Valid n (quadtree n f)
quadtree_valid n f = tiling_valid (quadtree_tiling n f) (quadtree_no_four n f)

pub quadtree_shown : (n : ℕ) (f : ℕ → ℕ) (z : ℕ) → z < 4 ^ n → account_at (quadtree n f) z ≡ f z
quadtree_shown n f z h = account_at_tiling (quadtree_tiling n f) z (omega arith) h

pub quadtree_cong : (n : ℕ) (f g : ℕ → ℕ) → ((z : ℕ) → z < 4 ^ n → f z ≡ g z) → quadtree n f ≡ quadtree n g
quadtree_cong n f g e = tiling_quadtree n g (tiling_cong (quadtree_tiling n f) (λ z l h. sym (e z h))) (quadtree_no_four n f)

pub valid_no_four : {n : ℕ} {ts : List Tile} → Valid n ts → NoFour ts
valid_no_four {ts = ts} v = merged_no_four ts v.merged

pub valid_quadtree : {n : ℕ} {ts : List Tile} → Valid n ts → ts ≡ quadtree n (account_at ts)
valid_quadtree {n} {ts} v = tiling_quadtree n (account_at ts) (valid_tiling v) (valid_no_four v)

pub valid_unique : {n : ℕ} {ts us : List Tile} → Valid n ts → Valid n us → ((z : ℕ) → z < 4 ^ n → account_at ts z ≡ account_at us z) → ts ≡ us
valid_unique {n} {ts} {us} v w e = valid_quadtree v ∙ quadtree_cong n (account_at ts) (account_at us) e ∙ sym (valid_quadtree w)
