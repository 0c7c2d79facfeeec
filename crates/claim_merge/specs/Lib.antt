-- Merging.
pub mod Standing
