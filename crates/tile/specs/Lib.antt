-- Tiles and tile words.
pub mod Tile
pub mod Slots
