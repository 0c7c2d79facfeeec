-- What is looked at fits in every respect, and none of it is above the highest account.
use Rattle.scan_weigh.proofs.Weighing.{range_above}
use Rattle.scan_suit.proofs.Stretched.{stretch_taken}
use Rattle.std.proofs.Common.{refl, arith, ◌+◌, ◌-◌, ◌%◌}
use Rattle.scan_suit.proofs.stretch_size.Goals as goal

pub returns : goal.returns
returns c =
    let a = c.args in
    let most = c.min-most.result in
    λ h. stretch_taken a.order a.accounts.now a.pixels a.taken a.free _ most c.highest.result refl (omega arith) c.if-pixels-ne0.false (omega arith) (omega arith) (range_above a.accounts.now a.taken (a.taken + (most - most % 4)) c.highest.result (omega arith) c.highest.ensures) c.if-highest-gt-HIGHEST_ACCOUNT.false
