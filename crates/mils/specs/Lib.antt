-- Positions in mils: hundredths of a mil and pixels, the text of a position, the offered calls.
pub mod Mils
pub mod Position
pub mod Calls
pub mod Answers
pub mod Promises
pub mod Worked
