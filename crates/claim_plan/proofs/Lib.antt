-- Laws of the plan of a claim.
--     Cases      the four changes of a claim, each with the list that it makes
--     Searches   from what the searches find in the words to the case of the claim
--     Counts     the counts of a plan
pub mod Cases
pub mod Searches
pub mod Counts
