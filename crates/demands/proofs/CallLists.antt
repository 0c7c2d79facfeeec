-- Lists of calls on a state that keeps a bed.
--     Ran, ran_begun   a list of calls answers what the plain bed answers, and keeps the bed that it leaves
--     same_lists       two lists that keep beds of one order are equal exactly when the beds are
use mathlib.Core.Path.{◌≡◌, refl, ap, sym, ◌∙◌}
use mathlib.Core.List.{List, [], ◌∷◌}
use mathlib.Core.Logic.{◌↔◌}
use Prim.Native.Nat.{ℕ, ◌^◌, ◌<◌}
use lib.ListN.{length}
use Rattle.tile.specs.declared.Tile.{Tile}
use Rattle.quadtree.specs.Raster.{account_at}
use Rattle.quadtree.specs.Quadtree.{quadtree}
use Rattle.quadtree.proofs.ValidLaws.{quadtree_cong, quadtree_shown}
use Rattle.bed.specs.Bed.{Bed}
use Rattle.demands.specs.Calls.{Call, State, step, plain_step, answers, left, plain_answers, plain_left, Begins}
use Rattle.demands.specs.Demands.{list_in}
use Rattle.demands.proofs.Kept.{Kept, kept_list}
use Rattle.demands.proofs.CallSteps.{Agrees, step_agrees, begin_agrees}

-- a list of calls on a state that keeps a bed
pub record Ran (m : ℕ) (s : State) (b : Bed) (cs : List Call) : Type 0 where
  pub answers : answers s cs ≡ plain_answers m b cs
  pub kept : Kept m (left s cs) (plain_left m b cs)

ran_more : (m : ℕ) (s : State) (b : Bed) (c : Call) (cs : List Call) → Agrees m (step s c) (plain_step m b c) → Ran m (step s c).state (plain_step m b c).bed cs → Ran m s b (c ∷ cs)
unfolding answers plain_answers left plain_left
ran_more m s b c cs e r = record { answers = λ i. e.answer i ∷ r.answers i; kept = r.kept }

ran : (m : ℕ) (s : State) (b : Bed) (cs : List Call) → Kept m s b → Ran m s b cs
unfolding answers plain_answers left plain_left
ran m s b [] k = record { answers = refl; kept = k }
ran m s b (c ∷ cs) k = let e = step_agrees c k in ran_more m s b c cs e (ran m (step s c).state (plain_step m b c).bed cs e.kept)

pub ran_begun : (s : State) (b : Bed) (c : Call) (cs : List Call) → Begins (length s.slots) c → Ran (length s.slots) s b (c ∷ cs)
ran_begun s b c cs h = let e = begin_agrees s b c h in ran_more (length s.slots) s b c cs e (ran (length s.slots) (step s c).state (plain_step (length s.slots) b c).bed cs e.kept)

-- two lists that keep beds of one order are equal exactly when the beds are
pub same_lists : {m₁ m₂ : ℕ} {s₁ s₂ : State} {b₁ b₂ : Bed} → Kept m₁ s₁ b₁ → Kept m₂ s₂ b₂ → b₁.order ≡ b₂.order →
    (list_in s₁ ≡ list_in s₂) ↔ ((z : ℕ) → z < 4 ^ b₁.order → b₁.account z ≡ b₂.account z)
same_lists {m₁} {m₂} {s₁} {s₂} {b₁} {b₂} k₁ k₂ e = (there, back)
  where
    first : list_in s₁ ≡ quadtree b₁.order b₁.account
    first = rw k₁.is (kept_list b₁ k₁.good)

    second : list_in s₂ ≡ quadtree b₁.order b₂.account
    second = rw (k₂.is, e) (kept_list b₂ k₂.good)

    there : list_in s₁ ≡ list_in s₂ → (z : ℕ) → z < 4 ^ b₁.order → b₁.account z ≡ b₂.account z
    there q z h =
        sym (quadtree_shown b₁.order b₁.account z h)
        ∙ ap (λ (ts : List Tile). account_at ts z) (sym first ∙ q ∙ second)
        ∙ quadtree_shown b₁.order b₂.account z h

    back : ((z : ℕ) → z < 4 ^ b₁.order → b₁.account z ≡ b₂.account z) → list_in s₁ ≡ list_in s₂
    back q = first ∙ quadtree_cong b₁.order b₁.account b₂.account q ∙ sym second
