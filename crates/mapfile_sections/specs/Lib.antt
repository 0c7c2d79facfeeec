-- The sections of a map file as bytes.
pub mod Sections
pub mod OneEntry
