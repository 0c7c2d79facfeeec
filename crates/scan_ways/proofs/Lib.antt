-- Laws of bands.
--     Geometry    blocks as squares of pixels and as stretches of Morton numbers
--     Parts       a band put up to a column
--     Ways        how long a list on the way through a band grows, by rows
--     BlockWays   and block by block
--     Weights     what the bytes weigh, as the quads of the bed
pub mod Geometry
pub mod Parts
pub mod Ways
pub mod BlockWays
pub mod Weights
