-- Laws of the map file: what is written is read back, and totals are the numbers of pixels.
--     Back             words, entries and rosters that were written are read back
--     RoundTrip        reading a written file yields the same order and list
--     Totals           an account's total is the number of its pixels in the decoded raster
--     Computed         the worked lines of totals
pub mod Back
pub mod RoundTrip
pub mod Totals
pub mod Computed
