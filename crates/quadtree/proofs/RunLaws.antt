-- The law of runs: the runs of a raster, cut in turn, are its linear quadtree.
--     runs_cut                 of any list that is the raster's runs
--     runs_of_runs              of the list that the program gives: it is such a list
--     runs_quadtree, -linear   so, for the linear quadtree as a program and as a reader defines it
use mathlib.Core.Path.{◌≡◌, refl, ap, ◌∙◌, sym}
use mathlib.Core.List.{List, ◌∷◌, ◌++◌}
use Prim.Native.Nat.{ℕ, zero, suc, ◌+◌, ◌^◌, ◌<◌}
use native.Mathlib.Omega.{arith}
use Rattle.basics.proofs.Tests.{test_eqb, test_and}
use Rattle.basics.proofs.ChoiceLaws.{by_if}
use Rattle.tile.specs.declared.Tile.{Tile}
use Rattle.quadtree.specs.Raster.{Uniform}
use Rattle.quadtree.specs.Quadtree.{quadtree, LinearQuadtree}
use Rattle.quadtree.proofs.Alignment.{cmp, below, same, above}
use Rattle.quadtree.proofs.Linear.{quadtree_linear}
use Rattle.quadtree.specs.Runs.{cut, Run, NextRun, Runs, none, next, ahead, runs_from, runs_of, tiles_of}
use Rattle.quadtree.proofs.Rest.{Rest, rest_all, rest_end, rest_blank, rest_run}

runs_rest : {n : ℕ} {f : ℕ → ℕ} {lo : ℕ} {rs : List Run} {us : List Tile} → Runs f (4 ^ n) lo rs → Rest n f lo us → us ≡ tiles_of n rs
unfolding tiles_of
runs_rest {n} (none h b) r = rest_end (rest_blank (4 ^ n) h (omega arith) b r) (omega arith)
runs_rest {n} (next {r = r} {rs = rs} p s) q =
    let b = rest_run n p.run.room p.run (rest_blank r.from p.after (omega (arith, p.run.some, p.run.room)) p.blank q) in
    b.is ∙ ap (λ (ts : List Tile). cut n r.from r.upto r.account ++ ts) (runs_rest s b.goes)

pub runs_cut : (n : ℕ) (f : ℕ → ℕ) (rs : List Run) → Runs f (4 ^ n) 0 rs → tiles_of n rs ≡ quadtree n f
runs_cut n f rs r = sym (runs_rest r (rest_all n f))

-- one pixel more ahead of the runs
extend : {f : ℕ → ℕ} {lo a e : ℕ} → f lo ≡ a → Uniform f a (suc lo) e → Uniform f a lo e
extend {f} {lo} p u z x y = elim (cmp z lo) [ below h ↦ absurd (omega arith) | same h ↦ ap f h ∙ p | above h ↦ u z h y ]

module _ {f : ℕ → ℕ} {end lo : ℕ} where
  free : {rs : List Run} → f lo ≡ 0 → lo < end → Runs f end (suc lo) rs → Runs f end lo rs
  free p h (none l b) = none {lo = lo} (omega arith) (extend p b)
  free p h (next {r = r} n s) = next {lo = lo} {r = r} (record { after = omega (arith, n.after); blank = extend p n.blank; owned = n.owned; run = n.run }) s

  joined : {r : Run} {rs : List Run} → f lo ≡ r.account → r.from ≡ suc lo → NextRun f end (suc lo) r → Runs f end r.upto rs → Runs f end lo (record { from = lo; upto = r.upto; account = r.account } ∷ rs)
  joined {r} p e n s = next {lo = lo} {r = record { from = lo; upto = r.upto; account = r.account }}
      (record {
        after = omega arith;
        blank = λ z x y. absurd (omega arith);
        owned = n.owned;
        run = record { some = omega (arith, n.run.some); room = n.run.room; uniform = extend p (λ z x y. n.run.uniform z (omega arith) y); ended = n.run.ended };
      }) s

  alone : {a : ℕ} {rs : List Run} → f lo ≡ a → 0 < a → lo < end → (suc lo < end → f (suc lo) ≡ a → ⊥) → Runs f end (suc lo) rs → Runs f end lo (record { from = lo; upto = suc lo; account = a } ∷ rs)
  alone {a} p o h d s = next {lo = lo} {r = record { from = lo; upto = suc lo; account = a }}
      (record {
        after = omega arith;
        blank = λ z x y. absurd (omega arith);
        owned = o;
        run = record { some = omega arith; room = h; uniform = extend p (λ z x y. absurd (omega arith)); ended = d };
      }) s

  pub runs_ahead : (a : ℕ) {rs : List Run} → f lo ≡ a → lo < end → Runs f end (suc lo) rs → Runs f end lo (ahead a lo rs)
  unfolding ahead
  runs_ahead zero p h s = free p h s
  runs_ahead (suc a) p h (none l b) = alone p (omega arith) h (λ x y. omega (arith, b (suc lo) (omega arith) x)) (none l b)
  runs_ahead (suc a) p h (next {r = r} {rs = rs} n s) = by_if (Runs f end lo) (test_and (test_eqb r.from (suc lo)) (test_eqb r.account (suc a)))
      (λ q. joined (p ∙ sym q.1) q.0 n s)
      (λ q. alone p (omega arith) h (λ x y. elim (cmp (suc lo) r.from) [
        | below l ↦ omega (arith, n.blank (suc lo) (omega arith) l)
        | same l ↦ q (sym l, sym (n.run.uniform r.from (omega arith) n.run.some) ∙ ap f (sym l) ∙ y)
        | above l ↦ omega (arith, n.after)
      ]) (next n s))

runs_from_runs : (f : ℕ → ℕ) (end lo m : ℕ) → lo + m ≡ end → Runs f end lo (runs_from f lo m)
unfolding runs_from
runs_from_runs f end lo zero e = none {lo = lo} (omega arith) (λ z x y. absurd (omega arith))
runs_from_runs f end lo (suc m) e = runs_ahead (f lo) refl (omega arith) (runs_from_runs f end (suc lo) m (omega arith))

pub runs_of_runs : (n : ℕ) (f : ℕ → ℕ) → Runs f (4 ^ n) 0 (runs_of n f)
unfolding runs_of
runs_of_runs n f = runs_from_runs f (4 ^ n) 0 (4 ^ n) (omega arith)

pub runs_quadtree : (n : ℕ) (f : ℕ → ℕ) → tiles_of n (runs_of n f) ≡ quadtree n f
runs_quadtree n f = runs_cut n f (runs_of n f) (runs_of_runs n f)

pub runs_linear : (n : ℕ) (f : ℕ → ℕ) → LinearQuadtree n f (tiles_of n (runs_of n f))
runs_linear n f = rw (runs_quadtree n f) (quadtree_linear n f)
