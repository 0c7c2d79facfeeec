-- The table by the numbers of its rows and columns.
--     row_of_lt, pixel_kind_lt   there are three rows and five columns
--     row_tag, column_tag       rows and columns have the numbers of code's classes and kinds
--     pixel_at                  the kinds in the order of the columns
--     old_rows                  the old table's rows, as code has them
--     old_at                   they say what the old table says
use mathlib.Core.Path.{◌≡◌, refl}
use mathlib.Core.Bool.{Bool, true, false, not}
use mathlib.Core.List.{List, [], ◌∷◌}
use Prim.Native.Nat.{ℕ, zero, suc, ◌<◌}
use native.Mathlib.Omega.{arith}
use lib.Dec.{T}
use lib.ListN.{get_or}
use Rattle.basics.proofs.Tests.{test_eqb}
use Rattle.basics.proofs.ChoiceLaws.{by_if}
use Rattle.basics.proofs.Computed.{below, at}
use Rattle.table.specs.declared.Class.TheVariants.{Staff, Student, Guest}
use denote.Enum.Declared.{tag_of}
use Rattle.table.specs.contracts.Class as class
use Rattle.table.specs.contracts.Pixel as pixel
use Rattle.table.specs.declared.Class.{Class}
use Rattle.table.specs.declared.Pixel.{Pixel}
use Rattle.table.specs.declared.Pixel.TheVariants.{Own, Nobodys, Guests, Students, Staffs}
use Rattle.table.specs.Table.{class_of, row_of, columns, column_of, held_by, pixel_kind, says, old_table}

pub row_of_lt : (x : Class) → row_of x < 3
unfolding row_of
row_of_lt Staff = omega arith
row_of_lt Student = omega arith
row_of_lt Guest = omega arith

held_by_lt : (x : Class) → held_by x < 5
unfolding held_by
held_by_lt Staff = omega arith
held_by_lt Student = omega arith
held_by_lt Guest = omega arith

pub pixel_kind_lt : (p q : ℕ) → pixel_kind p q < 5
unfolding pixel_kind
pixel_kind_lt p q = by_if (λ (k : ℕ). k < 5) (test_eqb p q) (λ e. omega arith) (λ e. by_if (λ (k : ℕ). k < 5) (test_eqb q 0) (λ h. omega arith) (λ h. held_by_lt (class_of q)))

pub row_tag : (x : Class) → tag_of class.the_type x ≡ row_of x
unfolding row_of
row_tag Staff = refl
row_tag Student = refl
row_tag Guest = refl

pub column_tag : (p : Pixel) → tag_of pixel.the_type p ≡ column_of p
column_tag Own = refl
column_tag Nobodys = refl
column_tag Guests = refl
column_tag Students = refl
column_tag Staffs = refl

-- the kinds of pixels, in the order of the columns
abbrev pub all_pixels : List Pixel
all_pixels = Own ∷ Nobodys ∷ Guests ∷ Students ∷ Staffs ∷ []

pub pixel_at : (k : ℕ) → k < columns → column_of (get_or all_pixels k Own) ≡ k
pixel_at zero h = refl
pixel_at (suc zero) h = refl
pixel_at (suc (suc zero)) h = refl
pixel_at (suc (suc (suc zero))) h = refl
pixel_at (suc (suc (suc (suc zero)))) h = refl
pixel_at (suc (suc (suc (suc (suc k))))) h = absurd (omega arith)

abbrev pub old_rows : List (List Bool)
old_rows = (true ∷ true ∷ true ∷ true ∷ false ∷ []) ∷ (true ∷ true ∷ false ∷ false ∷ false ∷ []) ∷ (true ∷ false ∷ false ∷ false ∷ false ∷ []) ∷ []

alike : Bool → Bool → Bool
alike true b = b
alike false b = not b

alike_same : (a b : Bool) → T (alike a b) → a ≡ b
unfolding alike
alike_same true true t = refl
alike_same true false t = absurd t
alike_same false true t = absurd t
alike_same false false t = refl

-- all fifteen cells, computed
abbrev cell : ℕ → ℕ → Bool
cell r k = alike (get_or (get_or old_rows r []) k false) (says old_table r k)

abbrev row : ℕ → Bool
row r = below (λ k. cell r k) 5

cells : T (below row 3)
unfolding says old_table alike
cells = tt

pub old_at : (r k : ℕ) → r < 3 → k < 5 → get_or (get_or old_rows r []) k false ≡ says old_table r k
old_at r k h l = alike_same _ _ (at (cell r) 5 (at row 3 cells r h) k l)
