-- The demands proved: each theorem with the statement of specs/Demands.antt; the proofs are citations.
--     demand_two       scanning
--     demand_three     two lists of calls
--     none_unscanned   a corollary: in them 22 is met by no call
use lib.ListN.{length}
use Rattle.bed.specs.declared.Kind.TheVariants.{Rows}
use Rattle.bed.specs.Bed.{Bed, fresh_bed}
use Rattle.demands.specs.Calls.{plain_step}
use Rattle.demands.specs.Demands.{DemandTwo, DemandThree, NoneUnscanned}
use Rattle.demands.proofs.Kept.{kept_left}
use Rattle.demands.proofs.Scanning.{scan_kept, scan_counted}
use Rattle.demands.proofs.CallLists.{ran_begun, same_lists}
use Rattle.demands.proofs.NoneUnscanned.{begin_clear, list_more, list_clear, left_opening}

pub demand_two : DemandTwo
unfolding DemandTwo
demand_two k n slots feeds h = record { adds_up = scan_counted k n slots feeds h; left = kept_left (scan_kept k n slots feeds h) }

pub demand_three : DemandThree
unfolding DemandThree
demand_three s₁ s₂ b₁ b₂ c₁ c₂ cs₁ cs₂ h₁ h₂ =
    let r₁ = ran_begun s₁ b₁ c₁ cs₁ h₁ in
    let r₂ = ran_begun s₂ b₂ c₂ cs₂ h₂ in
    record { answers₁ = r₁.answers; answers₂ = r₂.answers; left₁ = kept_left r₁.kept; left₂ = kept_left r₂.kept; same = same_lists r₁.kept r₂.kept }

-- of any bed before
pub none_unscanned : NoneUnscanned
unfolding NoneUnscanned
none_unscanned s c cs h =
    let b : Bed = fresh_bed Rows 0 in
    let m = length s.slots in
    let r = ran_begun s b c cs h in
    let p = begin_clear m b c h in
    let l = list_more m b c cs p (list_clear m (plain_step m b c).bed cs p.clear) in
    (λ a i. l.others a (rw r.answers at i), left_opening r.kept l.clear)
