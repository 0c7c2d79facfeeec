-- The loop keeps that what is looked at, in `bad`, and the words from here on decide.
use mathlib.Core.Path.{◌≡◌}
use mathlib.Core.Bool.{◌||◌}
use Prim.Native.Nat.{ℕ}
use lib.ListN.{drop}
use Rattle.tile.specs.Slots.{tiles}
use Rattle.bed.specs.declared.Kind.TheVariants.{Rows}
use Rattle.bed.specs.Places.{scan_of}
use Rattle.scan_check.specs.Opening.{covers_unscanned}
use Rattle.scan_check.proofs.rows_unscanned.Given as goal

abbrev pub invariant-loop-word : goal.invariant-loop-word
invariant-loop-word l = (t : ℕ) → covers_unscanned (scan_of Rows l.tree.order l.pixels t) (tiles l.tree.words.now)
    ≡ (l.bad || covers_unscanned (scan_of Rows l.tree.order l.pixels t) (tiles (drop l.word-index l.tree.words.now)))
