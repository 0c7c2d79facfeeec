-- The loop keeps `Lining`: the stretch is put up to the quad number quad-index.
use Rattle.scan_block.proofs.Lines.{Lining}
use Rattle.std.proofs.Common.{◌≡◌}
use Rattle.scan_block.proofs.put_stretch.Given as goal

abbrev pub invariant-loop-quad : goal.invariant-loop-quad
invariant-loop-quad l = record {
  back : l.moved.back ≡ l.initial.moved.back;
  lining : Lining l.initial.slots l.slots l.initial.moved.front l.initial.moved.back l.accounts l.at l.z l.quad-index l.next l.moved.front;
}
