-- Laws of list checking without a branch in the loop.
--     FaultLaws    what the test of one word shows
--     StretchLaws  the words of a stretch, and the stretches, turn by turn
pub mod FaultLaws
pub mod StretchLaws
