-- Laws of tiles, tile words and slots.
--     TileLaws    laws of tile words
--     SlotsLaws   laws of tile lists in slots
--     Bits        what the shifts of the code compute
--     WordBits    what joining words and comparing them bit by bit does to the fields
--     SlotTiles   single tiles and stretches of a list in slots
pub mod TileLaws
pub mod SlotsLaws
pub mod Bits
pub mod WordBits
pub mod SlotTiles
