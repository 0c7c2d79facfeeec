-- Stretches of places, and what quads weigh.
pub mod Stretch
pub mod Weight
