-- The load, case by case.
--     load_check_empty            a file without a byte has no count
--     Counted file m             the count is right, and so many bytes are lent; test-counted tests it
--     load_check_passed           a load passes only if that holds and the table passes
use mathlib.Core.Path.{◌≡◌, refl}
use mathlib.Core.Bool.{◌&&◌}
use mathlib.Core.List.{List, [], ◌∷◌}
use Prim.Native.Nat.{ℕ}
use native.Mathlib.Omega.{arith}
use lib.Dec.{eqb}
use lib.ListN.{length, get_or, drop}
use Rattle.basics.proofs.Tests.{Test, test_eqb, test_and}
use Rattle.refusal.specs.Refusal.{accepted, table_malformed}
use Rattle.refusal.specs.Checks.{must}
use Rattle.refusal.proofs.CheckLaws.{must_inv}
use Rattle.table.specs.Load.{table_length, table_check, load_check}

pub load_check_empty : (file : List ℕ) (m : ℕ) → length file ≡ 0 → table_malformed ≡ load_check file m
unfolding load_check must
load_check_empty [] m e = refl
load_check_empty (b ∷ bs) m e = absurd (omega arith)

abbrev pub Counted : List ℕ → ℕ → Type 0
Counted file m = (get_or file 0 0 ≡ table_length) × (m ≡ table_length)

pub test_counted : (file : List ℕ) (m : ℕ) → Test (Counted file m) (eqb (get_or file 0 0) table_length && eqb m table_length)
test_counted file m = test_and (test_eqb (get_or file 0 0) table_length) (test_eqb m table_length)

pub load_check_passed : (file : List ℕ) (m : ℕ) → load_check file m ≡ accepted → Counted file m × (table_check (drop 1 file) ≡ accepted)
unfolding load_check
load_check_passed file m e = must_inv (test_counted file m) (omega arith) e
