-- Lookup: the block that it names, the call, what its answer is good for, lines of it worked.
pub mod Answers
pub mod Block
pub mod Lookup
pub mod Promises
pub mod Worked
pub mod Stretch
