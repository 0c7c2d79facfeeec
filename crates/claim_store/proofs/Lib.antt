-- Laws of the stores of a claim.
--     Room     room made in a list by one move of its tail
--     Levels   the tiles of a split block written level by level, as equations between lists
pub mod Room
pub mod Levels
