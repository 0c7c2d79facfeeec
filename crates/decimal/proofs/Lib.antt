-- Laws of numbers in decimal and of lines of numbers.
--     DecimalLaws   laws of digits, and of digits put into a lent buffer
--     LinesLaws     laws of lines of numbers
--     ValueLaws     laws of digits read one after the other
--     DigitsValue   a number's digits, read again
--     OneNumeral    a number has one way to be written
pub mod DecimalLaws
pub mod LinesLaws
pub mod ValueLaws
pub mod DigitsValue
pub mod OneNumeral
