-- Laws of Morton numbers, and what the masks of the code do.
--     MortonLaws   laws of Morton numbers, for columns and rows of any number n of bits
--     Squares      a block of Morton numbers is a square of pixels
--     Masks        what the masks and shifts of the code do
--     SpreadLaws      spread numbers rise with what they spread; the column and the row of a number as they stand in it
--     Examples     Morton numbers of a few pixels, computed
pub mod MortonLaws
pub mod Squares
pub mod Masks
pub mod SpreadLaws
pub mod Examples
