-- What loads are good for: statements over `load_of` and `table_of`, for every file and every table in force, any bytes
-- of any length.
--     Yes file r k          the file says yes in row r and column k
--     Formed file table     the file is a count of 15 and 15 bytes, none above 1; and 15 bytes are lent for the table
--     Sound file            02's checks of the table in the file: own pixels, and column by column
--     Outcome file table    just when a load gives 55 or 56 or is accepted, and what it leaves
--     Loads                 so ends every load
--     OldLoads              the old table passes
--     Loadable t            some load is accepted and leaves the table t
--     Counts                such a table counts as it is, and every other as the old table
--     load_all files t       the table in force after loads in turn, each handed the table as the one before left it
--     AllRefused files t    each of the loads is refused where t is in force
--     InForce               the old table is in force until a load is accepted, where it was at the start; while loads
--                           are refused the table stays, byte for byte; an accepted one is in force until the next
use Rattle.std.specs.Prelude.{◌≡◌, ◌↔◌, ℕ, ◌+◌, ◌*◌, ◌≤◌, ◌<◌, length, get_or, drop}
use mathlib.Core.List.{List, [], ◌∷◌, ◌++◌, Memᴰ}
use Rattle.refusal.specs.Refusal.{accepted, table_malformed, table_unsound}
use Rattle.table.specs.declared.Class.TheVariants.{Staff, Student, Guest}
use Rattle.table.specs.declared.Class.{Class}
use Rattle.table.specs.Table.{row_of, columns, own, old_table}
use Rattle.table.specs.Load.{table_length, table_of, load_of}

-- the table's bytes stand behind the count, row after row
abbrev pub Yes : List ℕ → ℕ → ℕ → Type 0
Yes file r k = get_or file (1 + (r * columns + k)) 0 ≡ 1

pub record Formed (file table : List ℕ) : Type 0 where
  pub whole : length file ≡ 1 + table_length
  pub count : get_or file 0 0 ≡ table_length
  pub bits : (i : ℕ) → i < table_length → get_or file (1 + i) 0 ≤ 1
  pub lent : length table ≡ table_length

pub record Sound (file : List ℕ) : Type 0 where
  pub owns : (x : Class) → Yes file (row_of x) own
  pub students : (k : ℕ) → k < columns → Yes file (row_of Guest) k → Yes file (row_of Student) k
  pub staffs : (k : ℕ) → k < columns → Yes file (row_of Student) k → Yes file (row_of Staff) k

pub record Outcome (file table : List ℕ) : Type 0 where
  pub malformed : ((load_of file table).answer ≡ table_malformed) ↔ (Formed file table → ⊥)
  pub unsound : ((load_of file table).answer ≡ table_unsound) ↔ (Formed file table × (Sound file → ⊥))
  pub accepts : ((load_of file table).answer ≡ accepted) ↔ (Formed file table × Sound file)
  pub keeps : ((load_of file table).answer ≡ accepted → ⊥) → (load_of file table).storage ≡ table
  pub leaves : (load_of file table).answer ≡ accepted → (load_of file table).storage ≡ drop 1 file

unfoldable pub Loads : Type 0
Loads = (file table : List ℕ) → Outcome file table

unfoldable pub OldLoads : Type 0
OldLoads = (table : List ℕ) → length table ≡ table_length →
    ((load_of (table_length ∷ old_table) table).answer ≡ accepted)
    × ((load_of (table_length ∷ old_table) table).storage ≡ old_table)

abbrev pub Loadable : List ℕ → Type 0
Loadable t = (file : List ℕ) × (table : List ℕ) × ((load_of file table).answer ≡ accepted)
    × ((load_of file table).storage ≡ t)

pub record Counts : Type 0 where
  pub loadable : (t : List ℕ) → Loadable t → table_of t ≡ t
  pub others : (t : List ℕ) → (Loadable t → ⊥) → table_of t ≡ old_table

unfoldable pub load_all : List (List ℕ) → List ℕ → List ℕ
load_all [] t = t
load_all (file ∷ files) t = load_all files (load_of file t).storage

abbrev pub AllRefused : List (List ℕ) → List ℕ → Type 0
AllRefused files t = (file : List ℕ) → Memᴰ file files → (load_of file t).answer ≡ accepted → ⊥

-- at the start a caller has the old table's bytes, or any that count as it, such as fifteen zeros
pub record InForce : Type 0 where
  pub first : (files : List (List ℕ)) (t : List ℕ) → table_of t ≡ old_table → AllRefused files t →
      table_of (load_all files t) ≡ old_table
  pub kept : (files : List (List ℕ)) (t : List ℕ) → AllRefused files t → load_all files t ≡ t
  pub loaded : (ahead : List (List ℕ)) (file : List ℕ) (behind : List (List ℕ)) (t : List ℕ) →
      (load_of file (load_all ahead t)).answer ≡ accepted → AllRefused behind (drop 1 file) →
      (load_all (ahead ++ (file ∷ behind)) t ≡ drop 1 file) × (table_of (drop 1 file) ≡ drop 1 file)
