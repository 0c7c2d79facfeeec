-- The counts of a plan.
--     inner_none, -one, -bit, -le   how many tiles a block of an account has
--     changes_pieces          how many tiles come
--     changes_tiles           how many the list then has
--     Sums ..                 the bounds of the sum, which `changes_sums` gives
use mathlib.Core.Path.{◌≡◌, ◌∙◌, refl, ap, sym}
use mathlib.Core.Bool.{Bool, not}
use Rattle.basics.proofs.Tests.{Test, holds, fails, test_eqb}
use mathlib.Core.List.{List}
use lib.Dec.{eqb}
use mir.Val.{bool_byte}
use Prim.Native.Nat.{ℕ, zero, suc, ◌+◌, ◌-◌, ◌*◌, ◌≤◌}
use native.Mathlib.Omega.{arith}
use lib.ListN.{length, take, drop, length-append, length-drop}
use lib.Seq.{length-take-le}
use Rattle.tile.specs.declared.Tile.{Tile}
use Rattle.tile.specs.Tile.{highest_order}
use Rattle.quadtree.specs.Raster.{account_at}
use Rattle.quadtree.specs.Quadtree.{single, blocks, quadtree}
use Rattle.claim_split.proofs.Split.{split_length}
use Rattle.bed.specs.Bed.{claimed}
use Rattle.claim_plan.specs.declared.Change.{Change}
use Rattle.claim_plan.specs.Plan.{Changes, inner}

pub inner_none : (a : ℕ) → a ≡ 0 → inner a ≡ 0
unfolding inner
inner_none zero e = refl
inner_none (suc a) e = absurd (omega arith)

pub inner_one : (a : ℕ) → (a ≡ 0 → ⊥) → inner a ≡ 1
unfolding inner
inner_one zero e = absurd (e refl)
inner_one (suc a) e = refl

pub inner_bit : (a : ℕ) → bool_byte (not (eqb a 0)) ≡ inner a
inner_bit a = go (test_eqb a 0)
  where
    go : {b : Bool} → Test (a ≡ 0) b → bool_byte (not b) ≡ inner a
    go (holds e) = sym (inner_none a e)
    go (fails e) = sym (inner_one a e)

pub inner_le : (a : ℕ) → inner a ≤ 1
unfolding inner
inner_le zero = omega arith
inner_le (suc a) = omega arith

single_length : (c k a : ℕ) → length (single c k a) ≡ inner a
unfolding single inner
single_length c k zero = refl
single_length c k (suc a) = refl

-- the numbers of a change to m tiles
pub record Sums (tiles m : ℕ) (r : Change) : Type 0 where
  pub order : r.lo ≤ r.hi
  pub within : r.hi ≤ tiles
  pub levels : r.whole.size ≡ r.block.size + (r.whole.size - r.block.size)
  pub fits : r.whole.size ≤ highest_order
  pub few : m ≤ 3 * highest_order + 1

module _ {n : ℕ} {ts : List Tile} {c k a : ℕ} {r : Change} (w : Changes n ts c k a r) where
  levels : r.whole.size ≡ r.block.size + (r.whole.size - r.block.size)
  levels = omega (arith, w.split.sizes)

  pub changes_pieces : 3 * (r.whole.size - r.block.size) + inner a ≡ length (blocks (claimed (account_at ts) c k a) r.whole.size r.whole.corner)
  changes_pieces = sym (split_length (r.whole.size - r.block.size) r.whole.size r.whole.corner levels w.split ∙ ap (λ (x : ℕ). 3 * (r.whole.size - r.block.size) + x) (single_length r.block.corner r.block.size a))

  pub changes_tiles : (tiles m : ℕ) → length ts ≡ tiles → m ≡ 3 * (r.whole.size - r.block.size) + inner a → r.lo + m + (tiles - r.hi) ≡ length (quadtree n (claimed (account_at ts) c k a))
  changes_tiles tiles m et em = sym (ap length (sym w.result) ∙ length-append (take r.lo ts) _ ∙ omega (
    arith,
    length-append (blocks (claimed (account_at ts) c k a) r.whole.size r.whole.corner) (drop r.hi ts),
    length-drop r.hi ts,
    length-take-le r.lo ts (omega (arith, w.order, w.within)),
    changes_pieces,
    w.within,
  ))

  pub changes_sums : (tiles m : ℕ) → length ts ≡ tiles → m ≡ 3 * (r.whole.size - r.block.size) + inner a → n ≤ highest_order → Sums tiles m r
  changes_sums tiles m et em hn = record { order = w.order; within = omega (arith, w.within); levels = levels; fits = omega (arith, w.fits); few = omega (arith, inner_le a, w.fits) }
