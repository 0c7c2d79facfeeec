-- Laws of lines of numbers.
--     triple_line_length                 how long a line of three numbers is
--     pair_line_most, triple_line_most    how long a line is at most
--     pair_put                          a line of two numbers, put in three parts
use mathlib.Core.Path.{◌≡◌}
use mathlib.Core.List.{List, [], ◌∷◌, ◌++◌, append_assoc}
use Prim.Native.Nat.{ℕ, ◌+◌, ◌≤◌}
use native.Mathlib.Omega.{arith}
use lib.ListN.{length, length-append}
use Rattle.text.specs.declared.Writer.{Writer}
use Rattle.text.specs.Puts.{Puts}
use Rattle.text.proofs.PutAtLaws.{puts_then}
use Rattle.decimal.specs.Decimal.{digits_most, digits}
use Rattle.decimal.specs.Lines.{line_feed, triple_most, pair_line, triple_line}
use Rattle.decimal.proofs.DecimalLaws.{digits_by_most}

pub pair_line_most : (v : List ℕ) (m : ℕ) (w : List ℕ) (n : ℕ) → length (pair_line v m w n) ≤ length v + length w + digits_most + digits_most + 1
pair_line_most v m w n = simp length-append (omega (arith, digits_by_most digits_most m, digits_by_most digits_most n))

pub triple_line_length : (a b c : ℕ) → length (triple_line a b c) ≡ length (digits a) + length (digits b) + length (digits c) + 3
triple_line_length a b c = simp length-append (omega arith)

pub triple_line_most : (a b c : ℕ) → length (triple_line a b c) ≤ triple_most
triple_line_most a b c =
    omega (arith, triple_line_length a b c, digits_by_most digits_most a, digits_by_most digits_most b, digits_by_most digits_most c)

pub pair_put : (v : List ℕ) (m : ℕ) (w : List ℕ) (n : ℕ) {old one two new : Writer} →
    Puts (v ++ digits m) old one → Puts (w ++ digits n) one two → Puts (line_feed ∷ []) two new → Puts (pair_line v m w n) old new
pair_put v m w n x y z = simp append_assoc at (puts_then x (puts_then y z))
