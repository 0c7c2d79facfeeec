-- The files that lists of calls write: document 02's request 9 for demand 3's lists. Definitions only.
--     FileLeft s b      the state s that calls left, against the plain bed b: if the bed is wholly scanned, it has a
--                       file, which is written of s wherever it has room; and whatever is written of s is a file of b,
--                       so that of a bed that is not wholly scanned nothing is
--     FilesLeft ..      two of them: their files have the same bytes exactly when the beds are the same, whatever their
--                       kinds and whichever calls led there
--     DemandThreeFiles  this holds of every two lists of calls, each taken whole
use Rattle.std.specs.Prelude.{◌≡◌, List, ◌∷◌, ◌↔◌, ℕ, ◌≤◌, length}
use Rattle.bed.specs.Bed.{Bed}
use Rattle.mapfile_write.specs.Writer.{write_of}
use Rattle.mapfile_same.specs.Same.{SameBed, Finished, BedFile, WriterAccepts, written, wrote}
use Rattle.demands.specs.Calls.{Call, State, left, plain_left, Begins}

pub record FileLeft (s : State) (b : Bed) : Type 0 where
  pub writes : Finished b → (file : List ℕ) × BedFile b file
      × ((lent : List ℕ) → length file ≤ length lent → write_of s.scan s.slots lent ≡ wrote file lent)
  pub file : (lent : List ℕ) → WriterAccepts s.scan s.slots lent →
      BedFile b (written s.scan s.slots lent)

pub record FilesLeft (s₁ s₂ : State) (b₁ b₂ : Bed) : Type 0 where
  pub left₁ : FileLeft s₁ b₁
  pub left₂ : FileLeft s₂ b₂
  pub same : (lent₁ lent₂ : List ℕ) → WriterAccepts s₁.scan s₁.slots lent₁ →
      WriterAccepts s₂.scan s₂.slots lent₂ →
      (written s₁.scan s₁.slots lent₁ ≡ written s₂.scan s₂.slots lent₂) ↔ SameBed b₁ b₂

-- begun as demand 3's lists are
unfoldable pub DemandThreeFiles : Type 0
DemandThreeFiles = (s₁ s₂ : State) (b₁ b₂ : Bed) (c₁ c₂ : Call) (cs₁ cs₂ : List Call) →
    Begins (length s₁.slots) c₁ → Begins (length s₂.slots) c₂ →
    FilesLeft (left s₁ (c₁ ∷ cs₁)) (left s₂ (c₂ ∷ cs₂))
    (plain_left (length s₁.slots) b₁ (c₁ ∷ cs₁)) (plain_left (length s₂.slots) b₂ (c₂ ∷ cs₂))
