-- Level by level: what is left to write makes the slots that are promised.
use mathlib.Core.List.{map, ◌++◌}
use Prim.Native.Nat.{◌+◌, ◌-◌}
use lib.ListN.{take, drop}
use Rattle.tile.specs.Tile.{word_of}
use Rattle.claim_split.specs.Split.{pieces}
use Rattle.claim_store.proofs.Levels.{Putting}
use Rattle.claim_store.proofs.write_pieces.Given as goal

abbrev pub invariant-loop-s : goal.invariant-loop-s
invariant-loop-s l = let pieced = pieces l.change.block.size l.change.block.corner l.account l.change.owner (l.change.whole.size - l.change.block.size) l.change.whole.corner in
    Putting (take l.change.lo l.initial.slots ++ (map word_of pieced ++ drop (l.change.lo + l.count) l.initial.slots))
    l.slots l.left l.right l.change.block.size l.change.block.corner l.account l.change.owner l.s l.d
