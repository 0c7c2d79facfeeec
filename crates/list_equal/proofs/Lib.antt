-- Laws of equal tiles in slots.
--     Turns   the turns of the loops over equal tiles
pub mod Turns
