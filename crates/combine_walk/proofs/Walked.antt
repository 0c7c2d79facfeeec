-- Two lists walked together, by any rule: a run of steps.
--     both_step                       two stretches together
--     step_begin                      a step is one from where it begins
--     run_begin, run_next             the next step begins where a run ends
--     step_more, run_other, run_all   a run goes on, ends where another account starts, and ends at the bed's end
use mathlib.Core.Path.{◌≡◌, refl, ◌∙◌, sym, ap₂}
use Rattle.std.specs.Prelude.{Option, None, Some}
use mathlib.Core.List.{List}
use Prim.Native.Nat.{ℕ, ◌≤◌, ◌<◌}
use native.Mathlib.Omega.{arith}
use Rattle.tile.specs.Tile.{highest_account}
use Rattle.tile.specs.Slots.{tiles_in}
use Rattle.quadtree.specs.Raster.{account_at}
use Rattle.quadtree.proofs.Tiling.{uniform_join}
use Rattle.quadtree.specs.Runs.{Ended}
use Rattle.combine_rule.specs.Rule.{by_pixel}
use Rattle.combine_walk.specs.declared.Piece.{Piece}
use Rattle.combine_walk.specs.declared.Place.{Place}
use Rattle.combine_walk.specs.declared.RunEnd.{RunEnd}
use Rattle.combine_walk.specs.declared.Step.{Step}
use Rattle.combine_walk.specs.Walk.{Stretch, PieceOf, StepOf, NextOf, RunOf, begin_of}
use Rattle.combine_walk.proofs.Cursor.{stands_on}

-- two stretches from z on, up to the end of the shorter
both_stretch : {g h : ℕ → ℕ} {end z a b d e : ℕ} (rule : ℕ → ℕ → ℕ) (c x : ℕ) → Stretch g end z a d → Stretch h end z b e → c ≡ rule a b → c ≤ highest_account → x ≤ d → x ≤ e → z < x → Stretch (by_pixel rule g h) end z c x
both_stretch rule c x p q r low u v w = record {
  some = w;
  room = omega (arith, p.room);
  uniform = λ y k l. ap₂ rule (p.uniform y k (omega arith)) (q.uniform y k (omega arith)) ∙ sym r;
  low = low;
}

pub both_step : {end t : ℕ} {s : List ℕ} {u : ℕ} {w : List ℕ} {z : ℕ} {p q : Piece} (rule : ℕ → ℕ → ℕ) (c x : ℕ) → PieceOf end t s z p → PieceOf end u w z q → (c ≡ rule p.account q.account) × (c ≤ highest_account) → (x ≤ p.stop) × (x ≤ q.stop) × ((y : ℕ) → y < p.stop → y < q.stop → y < x) →
    StepOf (by_pixel rule (account_at (tiles_in t s)) (account_at (tiles_in u w))) end t s u w z (record { from = z; account = c; end = record { z = x; first = p.at; second = q.at } })
both_step {z = z} rule c x p q r l =
    let some : z < x = l.2 z p.stretch.some q.stretch.some in
    record {
      from = refl;
      stretch = both_stretch rule c x p.stretch q.stretch r.0 r.1 l.0 l.1 some;
      both = record { first = stands_on x (omega arith) p.stands; second = stands_on x (omega arith) q.stands };
    }

module _ {f : ℕ → ℕ} {end t : ℕ} {s : List ℕ} {u : ℕ} {w : List ℕ} {z o a : ℕ} {p : Place} (h : StepOf f end t s u w z (record { from = o; account = a; end = p })) where
  pub step_more : {r : Step} → StepOf f end t s u w p.z r → r.account ≡ a → StepOf f end t s u w z (record { from = o; account = a; end = r.end })
  step_more q k = record {
    from = h.from;
    stretch = record { some = omega (arith, h.stretch.some, q.stretch.some); room = q.stretch.room; uniform = uniform_join h.stretch.uniform (rw k at q.stretch.uniform); low = h.stretch.low };
    both = q.both;
  }

  whole : Ended f end a p.z → (r : Option Step) → NextOf f end t s u w p.z r → RunOf f end t s u w z a (record { stop = p.z; next = r })
  whole e r g = record { run = record { some = h.stretch.some; room = h.stretch.room; uniform = h.stretch.uniform; ended = e }; low = h.stretch.low; ahead = g }

  pub run_other : {r : Step} → StepOf f end t s u w p.z r → (r.account ≡ a → ⊥) → RunOf f end t s u w z a (record { stop = p.z; next = Some r })
  run_other {r} q k = whole (λ l m. k (sym (q.stretch.uniform p.z (omega arith) q.stretch.some) ∙ m)) (Some r) q

  pub run_all : end ≤ p.z → RunOf f end t s u w z a (record { stop = p.z; next = None })
  run_all l = whole (λ k m. omega arith) None l

pub step_begin : {f : ℕ → ℕ} {end t : ℕ} {s : List ℕ} {u : ℕ} {w : List ℕ} {z : ℕ} {r : Step} → StepOf f end t s u w z r → StepOf f end t s u w r.from r
step_begin p = record { from = refl; stretch = rw p.from p.stretch; both = p.both }

-- the next step begins where the run ends
pub run_begin : {f : ℕ → ℕ} {end t : ℕ} {s : List ℕ} {u : ℕ} {w : List ℕ} {z a : ℕ} {r : RunEnd} → RunOf f end t s u w z a r → begin_of end r.next ≡ r.stop
run_begin {f} {end} {t} {s} {u} {w} {r = r} p = go r.next p.ahead
  where
    go : (o : Option Step) → NextOf f end t s u w r.stop o → begin_of end o ≡ r.stop
    go None l = omega (arith, p.run.room, l)
    go (Some q) h = h.from

pub run_next : {f : ℕ → ℕ} {end t : ℕ} {s : List ℕ} {u : ℕ} {w : List ℕ} {z a : ℕ} {r : RunEnd} → RunOf f end t s u w z a r → NextOf f end t s u w (begin_of end r.next) r.next
run_next p = rw (run_begin p) p.ahead
