-- 1 and 31, and then the number.
use Rattle.std.proofs.Common.{rules, sym}
use Rattle.refusal.proofs.RefusedLaws.{unless_passed, unless_refused}
use Rattle.mils.specs.Calls.{hundredths_of}
use Rattle.mils.proofs.CallLaws.{pixel_asked_small}
use Rattle.mils.proofs.hundredths_of.Goals as goal

pub returns-in_err-pixel_asked : goal.returns-in_err-pixel_asked
unfolding hundredths_of
returns-in_err-pixel_asked c = search (rules, unless_refused)

pub returns : goal.returns
unfolding hundredths_of
returns c = rw c.smallest_in.ensures (unless_passed _ _ c.in_ok-pixel_asked.ensures)

pub smallest_in-requires : goal.smallest_in-requires
smallest_in-requires c = pixel_asked_small c.args.order c.args.pixel (sym c.in_ok-pixel_asked.ensures)
