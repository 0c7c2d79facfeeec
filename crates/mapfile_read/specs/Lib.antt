-- The reader of a map file.
pub mod Reader
pub mod Answers
