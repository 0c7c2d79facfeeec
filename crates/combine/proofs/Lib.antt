-- Laws of a third list from two maps.
--     CombineComputed   the worked lines, computed
--     CombineLaws       what the offered call gives, by how its checks end
--     ThirdLaws         what an accepted combine leaves
pub mod CombineComputed
pub mod CombineLaws
pub mod ThirdLaws
