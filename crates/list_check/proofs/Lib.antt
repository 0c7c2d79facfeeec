-- Laws of list checking.
--     LastOfFour   what the test of check 16 tests
--     FourWords    that test by the bits in which four words differ
--     OneWord      one word of the pass
--     PassLaws     the pass over a list of words, turn by turn
--     Accepts      list checking accepts just the valid lists
--     FrontLaws    the words that pass, from the front on
--     HeadLaws     the checks up to the end of a list's head, and the list's
--     TreeLaws     what is known of a checked list
pub mod LastOfFour
pub mod FourWords
pub mod OneWord
pub mod PassLaws
pub mod Accepts
pub mod FrontLaws
pub mod HeadLaws
pub mod TreeLaws
