-- The loop keeps `Putting`: the block is put up to z, whose account is number `at`.
use Rattle.scan_block.proofs.Putting.{Putting}
use Rattle.bed.specs.Places.{place_of}
use Rattle.bed.specs.declared.Kind.TheVariants.{Rows}
use Rattle.std.proofs.Common.{◌≡◌, ◌-◌, ◌<◌, ◌≤◌}
use Rattle.scan_block.proofs.put_block.Given as goal

abbrev pub invariant-loop-z : goal.invariant-loop-z
invariant-loop-z l = record {
  upto : l.z ≤ l.end;
  at : l.z < l.end → l.at ≡ place_of Rows l.order l.z - l.start;
  back : l.moved.back ≡ l.initial.moved.back;
  putting : Putting l.initial.slots l.slots l.initial.moved.front l.initial.moved.back l.order l.start l.accounts l.corner l.z l.moved.front;
}

abbrev pub decreases-loop-z : goal.decreases-loop-z
decreases-loop-z l = l.end - l.z
