-- Laws of runs cut by the code.
--     Sizes    the largest block of a stretch by the bits of two numbers
--     Turns    the turns of the loops over a run
--     Passes   lists made in Morton order, counted in one pass and written in another
pub mod Sizes
pub mod Turns
pub mod Passes
