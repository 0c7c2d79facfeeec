-- Laws of merging.
--     SiblingsBeside   the comparison of the tiles on both sides of a tile with its siblings
--     MergeTurns       the merging loop, turn by turn
pub mod SiblingsBeside
pub mod MergeTurns
