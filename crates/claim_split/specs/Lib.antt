-- Blocks taken apart.
pub mod Split
