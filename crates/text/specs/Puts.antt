-- Inner: what a writer that puts bytes does to its buffer. Definitions only.
--     Puts bytes old new    the writer `old` became `new` by putting the bytes from its place on, in the same buffer
use Rattle.std.specs.Prelude.{◌≡◌, List, ℕ}
use Rattle.text.specs.declared.Writer.{Writer}
use Rattle.text.specs.PutAt.{PutAt}

pub record Puts (bytes : List ℕ) (old new : Writer) : Type 0 where
  pub same_buffer : new.out.ghost_name ≡ old.out.ghost_name
  pub put : PutAt bytes old.at old.out.now new.at new.out.now
