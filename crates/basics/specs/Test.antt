-- Inner: a test together with what it tests. Definitions only.
--     Test P b   b is true just if P holds
use Rattle.std.specs.Prelude.{Bool, true, false}

pub data Test (P : Type 0) : Bool → Type 0 where
  holds : P → Test P true
  fails : (P → ⊥) → Test P false
