-- List checking.
pub mod ListCheck
pub mod Pass
