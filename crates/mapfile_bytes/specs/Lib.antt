-- The layout of a map file, and the numbers in its bytes.
pub mod Layout
pub mod Items
