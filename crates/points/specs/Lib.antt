-- Points, their Morton numbers and the blocks around them.
pub mod Points
pub mod Answers
pub mod Worked
