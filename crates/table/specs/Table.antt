-- The table of rights (document 01, "Other calls"; document 02, request 8): which class of accounts may place at which
-- kind of pixel. A table is its 15 bytes, row after row, 1 for yes and 0 for no. Definitions only.
--     class_of a           a Class: staff are accounts 1 to 7, students 8 to 47, guests from 48 on; 0 never asks (34)
--     row_of x             the row of an asking class
--     columns             how many there are; `own`, `nobodys` and `held_by x` are their numbers
--     column_of x          the column of a kind of pixel
--     pixel_kind p h       the column for the asking account p at a pixel of the account h
--     says t r k          what the table t says in row r and column k
--     may_place t p h      its answer: may the account p place at a pixel of the account h?
--     old_table            document 01's table
-- Not here: which tables can be loaded, and which one counts (`Load`).
use Rattle.std.specs.Prelude.{Bool, List, [], ◌∷◌, ℕ, ◌+◌, ◌*◌, leb, eqb, get_or}
use Rattle.basics.specs.Choice.{if}
use Rattle.table.specs.declared.Class.{Class}
use Rattle.table.specs.declared.Class.TheVariants.{Staff, Student, Guest}
use Rattle.table.specs.declared.Pixel.{Pixel}
use Rattle.table.specs.declared.Pixel.TheVariants.{Own, Nobodys, Guests, Students, Staffs}

unfoldable pub class_of : ℕ → Class
class_of a = if (leb a 7) Staff (if (leb a 47) Student Guest)

unfoldable pub row_of : Class → ℕ
row_of Staff = 0
row_of Student = 1
row_of Guest = 2

-- the columns: own pixel, nobody's, another guest's, another student's, another staff member's
abbrev pub columns : ℕ
columns = 5

abbrev pub own : ℕ
own = 0

abbrev pub nobodys : ℕ
nobodys = 1

-- the column of another's pixel, by the class that holds it
unfoldable pub held_by : Class → ℕ
held_by Guest = 2
held_by Student = 3
held_by Staff = 4

-- the column of a kind of pixel, as code has it
abbrev pub column_of : Pixel → ℕ
column_of Own = own
column_of Nobodys = nobodys
column_of Guests = 2
column_of Students = 3
column_of Staffs = 4

unfoldable pub pixel_kind : ℕ → ℕ → ℕ
pixel_kind p h = if (eqb p h) own (if (eqb h 0) nobodys (held_by (class_of h)))

unfoldable pub says : List ℕ → ℕ → ℕ → Bool
says t r k = eqb (get_or t (r * columns + k) 0) 1

unfoldable pub may_place : List ℕ → ℕ → ℕ → Bool
may_place t p h = says t (row_of (class_of p)) (pixel_kind p h)

-- the rows of staff, students and guests
unfoldable pub old_table : List ℕ
old_table =
    1 ∷ 1 ∷ 1 ∷ 1 ∷ 0 ∷
    1 ∷ 1 ∷ 0 ∷ 0 ∷ 0 ∷
    1 ∷ 0 ∷ 0 ∷ 0 ∷ 0 ∷ []
