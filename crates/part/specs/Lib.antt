-- Quadrant part.
pub mod Answers
pub mod Part
