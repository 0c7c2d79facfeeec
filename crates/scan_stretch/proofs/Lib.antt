-- Laws of a stretch of places.
--     Laid     what a stretch of accounts leaves, by pixel and place
--     Fed      the plain bed's feed of a stretch that can come to no refusal
--     Quads    how long a list grows by the quads of a stretch
--     Lines    and by a stretch in Morton order
--     Totals   sums over a stretch of numbers
pub mod Totals
pub mod Laid
pub mod Fed
pub mod Quads
pub mod Lines
