-- List checking without a branch in the loop.
pub mod Clear
