-- What the test of check 16 tests.
--     Last seen t   t is the last of four siblings, whose others are the last three tiles seen
--     test_last     `last_of_four` is its test
use mathlib.Core.Path.{ap}
use mathlib.Core.List.{List, [], ◌∷◌}
use Prim.Native.Nat.{suc, ◌+◌}
use native.Mathlib.Numerals.{add-one}
use Rattle.basics.proofs.Tests.{Test, fails, test_eqb, test_and, test_map}
use Rattle.tile.specs.declared.Tile.{Tile}
use Rattle.tile.specs.Tile.{stop}
use Rattle.quadtree.specs.Raster.{Aligned, aligned}
use Rattle.quadtree.proofs.Alignment.{test_aligned}
use Rattle.quadtree.proofs.Siblings.{Follows, Siblings}
use Rattle.list_check.specs.ListCheck.{follows, last_of_four}

abbrev pub Last : List Tile → Tile → Type 0
Last [] t = ⊥
Last (z ∷ []) t = ⊥
Last (z ∷ y ∷ []) t = ⊥
Last (z ∷ y ∷ x ∷ seen) t = Siblings x y z t

test_first : (t : Tile) → Test (Aligned (suc t.size) t.corner) (aligned (t.size + 1) t.corner)
test_first t = rw (add-one t.size) (test_aligned (suc t.size) t.corner)

test_follows : (t u : Tile) → Test (Follows t u) (follows t u)
unfolding follows
test_follows t u = test_map
    (λ e i. record { corner = e.0 i; size = e.1.0 i; account = e.1.1 i })
    (λ e. (ap (λ (x : Tile). x.corner) e, (ap (λ (x : Tile). x.size) e, ap (λ (x : Tile). x.account) e)))
    (test_and (test_eqb u.corner (stop t)) (test_and (test_eqb u.size t.size) (test_eqb u.account t.account)))

pub test_last : (seen : List Tile) (t : Tile) → Test (Last seen t) (last_of_four seen t)
unfolding last_of_four
test_last [] t = fails (λ b. b)
test_last (z ∷ []) t = fails (λ b. b)
test_last (z ∷ y ∷ []) t = fails (λ b. b)
test_last (z ∷ y ∷ x ∷ seen) t = test_map
    (λ b. record { aligned = b.0; second = b.1.0; third = b.1.1.0; fourth = b.1.1.1 })
    (λ b. (b.aligned, (b.second, (b.third, b.fourth))))
    (test_and (test_first x) (test_and (test_follows x y) (test_and (test_follows y z) (test_follows z t))))
