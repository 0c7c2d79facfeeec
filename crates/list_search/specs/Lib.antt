-- Searches in a list of words.
pub mod Count
pub mod Cut
pub mod FirstPast
