-- The listing of a whole input.
pub mod Whole
