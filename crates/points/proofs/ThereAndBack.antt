-- What the calls without a map amount to, where their checks pass.
--     point_there_back    the Morton number answered for a point leads back to that point
--     number_there_back   the point answered for a Morton number leads back to that number
--     HasNumber           a block of the bed has a Morton number in it
--     around_has          the block answered is one of the bed and has the point in it
--     around_only         no other block of its size has
--     around_square       a pixel lies in the square of a block of a bed just where the block of this size around it, on the largest bed, is that one
use mathlib.Core.Path.{◌≡◌, refl, ap, sym, ◌∙◌}
use mathlib.Core.Logic.{◌↔◌}
use Prim.Native.Nat.{ℕ, ◌+◌, ◌^◌, ◌≤◌, ◌<◌}
use native.Mathlib.Omega.{arith}
use lib.Pow.{pow_mono}
use Rattle.basics.proofs.Tests.{test_leb}
use Rattle.refusal.specs.Refusal.{accepted}
use Rattle.refusal.proofs.CheckLaws.{must_pass, else_on, unless_on, unless_number}
use Rattle.morton.specs.Morton.{morton, column, row, Square}
use Rattle.morton.proofs.MortonLaws.{morton_lt, column_lt, row_lt, column_morton, row_morton, morton_column_row, morton_wide, column_wide, row_wide}
use Rattle.morton.proofs.Squares.{square_bed, number_square, square_number}
use Rattle.quadtree.specs.Raster.{Aligned}
use Rattle.quadtree.proofs.Alignment.{aligned_room, corner_aligned, corner_has, corner_only}
use Rattle.tile.specs.Tile.{highest_order, corner_at}
use Rattle.bed.proofs.BedLaws.{test_block_in}
use Rattle.checks.specs.Asked.{block_check}
use Rattle.checks.proofs.AskedLaws.{order_inside, block_inside, block_passed, point_inside}
use Rattle.points.specs.declared.BlockAnswer.{BlockAnswer}
use Rattle.points.specs.Points.{point_asked, number_of, around_asked, around_of, number_asked, point_of}
use Rattle.points.proofs.PointsLaws.{point_asked_passed, around_asked_passed, number_asked_passed}

asked : (n z : ℕ) → n ≤ highest_order → z < 4 ^ n → number_asked n z ≡ accepted
unfolding number_asked
asked n z o l = else_on _ _ (order_inside n o) ∙ sym (block_inside n z 0 1 refl (omega arith) l (omega arith))

pub point_there_back : (n c r : ℕ) → point_asked n c r ≡ accepted →
    point_of n (number_of n c r).morton ≡ record { number = accepted; column = c; row = r }
unfolding point_of number_of
point_there_back n c r e =
    let p = point_asked_passed n c r e in
    let z = morton n c r in
    rw (unless_on (point_asked n c r) _ _ e, unless_on (number_asked n z) _ _ (asked n z p.order (morton_lt n c r)), column_morton n c r p.column, row_morton n c r p.row)

pub number_there_back : (n z : ℕ) → number_asked n z ≡ accepted →
    number_of n (point_of n z).column (point_of n z).row ≡ record { number = accepted; morton = z }
unfolding point_of number_of point_asked
number_there_back n z e =
    let p = number_asked_passed n z e in
    let c = column n z in
    let r = row n z in
    let on : point_asked n c r ≡ accepted = else_on _ _ (order_inside n p.0) ∙ sym (point_inside n c r (column_lt n z, row_lt n z)) in
    rw (unless_on (number_asked n z) _ _ e, unless_on (point_asked n c r) _ _ on, morton_column_row n z p.1)

pub record HasNumber (n k c z : ℕ) : Type 0 where
  pub block : block_check n c k ≡ accepted
  pub from : c ≤ z
  pub to : z < c + 4 ^ k

pub around_has : (n c r k : ℕ) → around_asked n c r k ≡ accepted → HasNumber n k (around_of n c r k).corner (morton n c r)
unfolding around_of block_check
around_has n c r k e =
    let z = morton n c r in
    let b = corner_has k z in
    rw (unless_on (around_asked n c r k) _ _ e) (record {
      block = must_pass _ (test_block_in n (corner_at k z) k) ((around_asked_passed n c r k e).1, (omega (arith, b.0, morton_lt n c r), corner_aligned k z)) refl;
      from = b.0;
      to = b.1;
    })

pub around_only : (n c r k d : ℕ) → around_asked n c r k ≡ accepted → HasNumber n k d (morton n c r) → d ≡ (around_of n c r k).corner
unfolding around_of
around_only n c r k d e h = rw (unless_on (around_asked n c r k) _ _ e) (corner_only (block_passed n d k h.block).1.1 h.from h.to)

module _ (n k d c r : ℕ) (o : n ≤ highest_order) (h : k ≤ n) (m : Aligned k d) (l : d < 4 ^ n) where
  -- on the largest bed every size of a smaller one passes 32
  around_asked_lem : c < 2 ^ highest_order → r < 2 ^ highest_order → around_asked highest_order c r k ≡ accepted
  unfolding around_asked point_asked
  around_asked_lem x y = else_on _ _ (else_on _ _ (order_inside highest_order (omega arith)) ∙ sym (point_inside highest_order c r (x, y)))
      ∙ must_pass _ (test_leb k highest_order) (omega arith) refl

  square_around : Square n k d c r → around_of highest_order c r k ≡ record { number = accepted; corner = d; size = k }
  unfolding around_of
  square_around s =
      let t = rw m.is at s in
      let b = square_bed n k m.times c r h t in
      let q = square_number n k m.times c r h (omega (arith, m.is)) t in
      let w : 2 ^ n ≤ 2 ^ highest_order = pow_mono o in
      let z = morton_wide n highest_order c r o b.0 b.1 in
      let e = corner_only {z = morton n c r} m (omega (arith, m.is, q.0)) (omega (arith, m.is, q.1)) in
      unless_on _ _ _ (around_asked_lem (omega (arith, b.0)) (omega (arith, b.1))) ∙ rw (z, ← e) refl

  around_in : around_of highest_order c r k ≡ record { number = accepted; corner = d; size = k } → Square n k d c r
  unfolding around_of
  around_in e =
      let z = morton highest_order c r in
      let a = sym (unless_number (λ (x : BlockAnswer). x.number) (around_asked highest_order c r k) (λ x. refl) refl) ∙ ap (λ (x : BlockAnswer). x.number) e in
      let p = (around_asked_passed highest_order c r k a).0 in
      let g : corner_at k z ≡ d = ap (λ (x : BlockAnswer). x.corner) (sym (unless_on (around_asked highest_order c r k) _ _ a) ∙ e) in
      let b = corner_has k z in
      let i : z < 4 ^ n = omega (arith, b.1, aligned_room h m l) in
      let x : c < 2 ^ n = omega (arith, column_lt n z, column_wide n highest_order z o i, column_morton highest_order c r p.column) in
      let y : r < 2 ^ n = omega (arith, row_lt n z, row_wide n highest_order z o i, row_morton highest_order c r p.row) in
      let w = morton_wide n highest_order c r o x y in
      rw (← m.is) at (number_square n k m.times c r h x y (omega (arith, m.is, b.0)) (omega (arith, m.is, b.1)))

  pub around_square : Square n k d c r ↔ (around_of highest_order c r k ≡ record { number = accepted; corner = d; size = k })
  around_square = (square_around, around_in)
