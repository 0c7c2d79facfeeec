-- Loading a table of rights (document 02, request 8), and the table that counts. Definitions only.
--     table_length             a table has 15 bytes
--     bits_only bs             no byte is above 1
--     has_every t r s k        in the first k columns row r of the table t has every yes of row s
--     sound t                 each row says yes to its own pixels; a student has every yes of a guest, and staff every
--                             yes of a student, column by column
--     table_check t            55, then 56, of a table's bytes
--     table_of t               the table that counts where t is handed in: the old one, if no load would accept t
--     load_check file m        the checks of a load into m bytes: a count byte and a table behind it, and as many lent
--     load_of file table       the offered call: its number, and what the table in force holds afterwards
use Rattle.std.specs.Prelude.{Bool, true, ◌&&◌, ◌||◌, not, List, [], ◌∷◌, ℕ, zero, suc, leb, eqb, length, get_or, drop}
use Rattle.refusal.specs.Refusal.{accepted, table_malformed, table_unsound}
use Rattle.refusal.specs.Checks.{must, unless, After}
use Rattle.table.specs.declared.Class.TheVariants.{Staff, Student, Guest}
use Rattle.table.specs.Table.{row_of, columns, own, says, old_table}

abbrev pub table_length : ℕ
table_length = 15

unfoldable pub bits_only : List ℕ → Bool
bits_only [] = true
bits_only (b ∷ bs) = leb b 1 && bits_only bs

unfoldable pub has_every : List ℕ → ℕ → ℕ → ℕ → Bool
has_every t r s zero = true
has_every t r s (suc k) = has_every t r s k && (not (says t s k) || says t r k)

unfoldable pub sound : List ℕ → Bool
sound t =
    (says t (row_of Staff) own && (says t (row_of Student) own && says t (row_of Guest) own))
    && (has_every t (row_of Student) (row_of Guest) columns && has_every t (row_of Staff) (row_of Student) columns)

unfoldable pub table_check : List ℕ → ℕ
table_check t = must (eqb (length t) table_length && bits_only t) table_malformed (must (sound t) table_unsound accepted)

unfoldable pub table_of : List ℕ → List ℕ
table_of t = unless (table_check t) (λ number. old_table) t

-- an empty file has no count: 0 stands in for it
unfoldable pub load_check : List ℕ → ℕ → ℕ
load_check file m = must (eqb (get_or file 0 0) table_length && eqb m table_length) table_malformed (table_check (drop 1 file))

unfoldable pub load_of : List ℕ → List ℕ → After ℕ
load_of file table =
    unless (load_check file (length table))
    (λ number. record { answer = number; storage = table })
    (record { answer = accepted; storage = drop 1 file })
