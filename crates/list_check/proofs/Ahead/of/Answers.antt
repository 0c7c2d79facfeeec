-- The words at i - 3, i - 2 and i - 1 are the last three of those in front of i.
use mathlib.Core.Path.{◌≡◌, ◌∙◌, ap}
use Prim.Native.Nat.{ℕ, ◌+◌, ◌-◌}
use native.Mathlib.Omega.{arith}
use lib.ListN.{get_or}
use Rattle.tile.specs.Tile.{stop, tile_of}
use Rattle.list_check.proofs.FrontLaws.{knows_behind}
use Rattle.list_check.proofs.Ahead.of.Goals as goal

pub returns : goal.returns
returns c = λ n p.
    let a = c.args in
    knows_behind n a.words.now a.i (omega arith) (λ m e.
    let one : a.i - 1 ≡ m + 2 = omega arith in
    let two : a.i - 2 ≡ m + 1 = omega arith in
    let three : a.i - 3 ≡ m = omega arith in (
      c.stop.ensures ∙ ap (λ (j : ℕ). stop (tile_of (get_or a.words.now j 0))) one,
      ap (λ (j : ℕ). get_or a.words.now j 0) three,
      ap (λ (j : ℕ). get_or a.words.now j 0) two,
      ap (λ (j : ℕ). get_or a.words.now j 0) one,
    )) p
