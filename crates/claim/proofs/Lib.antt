-- Laws of claims and of their previews.
--     ClaimComputed   the worked lines of previews
--     Refusals        the refusals of a claim, in their order
--     Whole           a claim as a whole
--     PreviewLaws     a preview answers what the claim does
pub mod ClaimComputed
pub mod Refusals
pub mod Whole
pub mod PreviewLaws
