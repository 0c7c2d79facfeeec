-- Laws of lookup.
--     LookupComputed   the worked lines, computed
--     BlockLaws        laws of the block named, with no slot in sight
--     StretchLaws      the block named by the two tiles next to a place in the list
--     LookupLaws       the offered call by how its checks end, and what is known past them
--     LookupPromises   what the answer is good for
pub mod LookupComputed
pub mod BlockLaws
pub mod StretchLaws
pub mod LookupLaws
pub mod LookupPromises
