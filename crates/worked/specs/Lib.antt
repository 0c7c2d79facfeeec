-- The worked beds of document 01.
pub mod Table
