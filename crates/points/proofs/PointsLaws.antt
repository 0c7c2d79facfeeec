-- Laws of the calls that are handed no map.
--     OnBed                   what is known of a point past 1 and 31; pointAsked-passed
--     around_asked_passed      what passes 1, 31 and 32; numberAsked-passed, what passes 1 and 32
--     extentOf-refused, extentOf-measured, numberOf-refused, numberOf-found, aroundOf-refused, aroundOf-found,
--     point_of_refused, point_of_found   the answers by how the checks end
use mathlib.Core.Path.{◌≡◌, sym}
use Prim.Native.Nat.{ℕ, ◌^◌, ◌≤◌, ◌<◌}
use native.Mathlib.Omega.{arith}
use Rattle.basics.proofs.Tests.{test_leb}
use Rattle.refusal.specs.Refusal.{accepted}
use Rattle.refusal.proofs.CheckLaws.{must_inv, else_inv}
use Rattle.refusal.proofs.RefusedLaws.{unless_passed}
use Rattle.morton.specs.Morton.{morton, column, row, side_bits}
use Rattle.morton.proofs.MortonLaws.{morton_wide, column_wide, row_wide}
use Rattle.tile.specs.Tile.{highest_order, corner_at}
use Rattle.checks.proofs.AskedLaws.{order_passed, point_passed, block_passed}
use Rattle.points.specs.Points.{point_asked, number_of, around_asked, around_of, number_asked, point_of}

pub record OnBed (n c r : ℕ) : Type 0 where
  pub order : n ≤ highest_order
  pub column : c < 2 ^ n
  pub row : r < 2 ^ n

pub point_asked_passed : (n c r : ℕ) → point_asked n c r ≡ accepted → OnBed n c r
unfolding point_asked
point_asked_passed n c r e =
    let a = else_inv _ _ e in
    let p = point_passed n c r a.1 in
    record { order = order_passed n a.0; column = p.0; row = p.1 }

pub around_asked_passed : (n c r k : ℕ) → around_asked n c r k ≡ accepted → OnBed n c r × (k ≤ n)
unfolding around_asked
around_asked_passed n c r k e =
    let a = else_inv _ _ e in
    (point_asked_passed n c r a.0, (must_inv (test_leb k n) (omega arith) a.1).0)

pub number_asked_passed : (n z : ℕ) → number_asked n z ≡ accepted → (n ≤ highest_order) × (z < 4 ^ n)
unfolding number_asked
number_asked_passed n z e =
    let a = else_inv _ _ e in
    (order_passed n a.0, (block_passed n z 0 a.1).1.0)

-- the number that code computes, by all bits of column and row, is that of the order
wide : {n c r : ℕ} → OnBed n c r → morton side_bits c r ≡ morton n c r
wide {n} {c} {r} p = morton_wide n side_bits c r p.order p.column p.row

-- the answers where the checks pass, as code computes them
pub number_of_found : (n c r z : ℕ) → accepted ≡ point_asked n c r → z ≡ morton side_bits c r → record { number = accepted; morton = z } ≡ number_of n c r
unfolding number_of
number_of_found n c r z e ez = rw (ez, wide (point_asked_passed n c r (sym e))) (unless_passed _ _ e)

pub around_of_found : (n c r k z d : ℕ) → accepted ≡ around_asked n c r k → z ≡ morton side_bits c r → d ≡ corner_at k z → record { number = accepted; corner = d; size = k } ≡ around_of n c r k
unfolding around_of
around_of_found n c r k z d e ez ed = rw (ed, ez, wide (around_asked_passed n c r k (sym e)).0) (unless_passed _ _ e)

pub point_of_found : (n z c r : ℕ) → accepted ≡ number_asked n z → c ≡ column side_bits z → r ≡ row side_bits z → record { number = accepted; column = c; row = r } ≡ point_of n z
unfolding point_of
point_of_found n z c r e ec er =
    let p = number_asked_passed n z (sym e) in
    rw (ec, er, column_wide n side_bits z p.0 p.1, row_wide n side_bits z p.0 p.1) (unless_passed _ _ e)
