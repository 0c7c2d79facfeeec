-- Bands put at once.
pub mod Banded
