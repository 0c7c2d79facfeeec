-- The files that lists of calls write.
pub mod Files
pub mod Worked
