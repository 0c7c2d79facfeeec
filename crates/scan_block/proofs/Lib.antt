-- Laws of blocks put in Morton order.
--     Advance   blocks of one account, one behind the other
--     Quads     a pixel, and the four pixels of a quad
--     Lines     a stretch, quad by quad
--     Putting   a block, quad by quad
pub mod Advance
pub mod Quads
pub mod Lines
pub mod Putting
