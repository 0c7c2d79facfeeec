-- So far none is above the highest.
use Rattle.scan_weigh.specs.Weighed.{NoneAbove}
use Rattle.scan_weigh.proofs.highest.Given as goal

abbrev pub invariant-loop-account : goal.invariant-loop-account
invariant-loop-account l = NoneAbove l.accounts 0 l.account-index l.top
